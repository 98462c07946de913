use Rattle.std.proofs.Common.{◌≡◌, sym, subst, ap, ◌∙◌}
use Rattle.block_rects.specs.Placed.{parts_of}
use Rattle.macro_blocks.specs.Limits.{MacroKeeps}
use Rattle.placed_blocks.specs.Placed.{macro_at, pins_of}
use Rattle.placed_blocks.proofs.Macros.{found, missed}
use Rattle.placed_blocks.proofs.parts.pins_of.Goals as goal

pub parts_of-requires-clause-cell : goal.parts_of-requires-clause-cell
parts_of-requires-clause-cell c =
    let at = c.in-Some-get.ensures.lookup in
    subst MacroKeeps (sym at.1) (c.requires.macros c.in-Some.place c.in-Some-get.cell.now at.3.0)

pub returns-in-Some-get-clause-pins : goal.returns-in-Some-get-clause-pins
returns-in-Some-get-clause-pins c =
    let at = c.in-Some-get.ensures.lookup in
    let is : pins_of c.args.tech.now c.args.units c.args.placed (macro_at c.args.macros.now c.args.place)
    ≡ parts_of c.args.tech.now c.args.units c.args.placed c.in-Some-get.cell.now =
    ap (pins_of c.args.tech.now c.args.units c.args.placed) (found c.args.macros.now c.args.place c.in-Some.place c.in-Some-get.cell.now c.in-Some.is at.3.0 at.1) in
    rw is c.parts_of.ensures.parts

pub returns-in-None-clause-pins : goal.returns-in-None-clause-pins
returns-in-None-clause-pins c =
    let past = c.in-None.ensures.lookup in
    c.new-in-None.ensures.items
    ∙ sym (ap (pins_of c.args.tech.now c.args.units c.args.placed) (missed c.args.macros.now c.args.place c.in-Some.place c.in-Some.is past.3))

use Rattle.std.proofs.Common.{◌≡◌, sym, subst, ap, ◌∙◌}
use Rattle.block_rects.specs.Placed.{obstructions_of}
use Rattle.macro_blocks.specs.Limits.{MacroKeeps}
use Rattle.placed_blocks.specs.Placed.{macro_at, obstructions_at}
use Rattle.placed_blocks.proofs.Macros.{found, missed}
use Rattle.placed_blocks.proofs.parts.obstructions_at.Goals as goal

pub obstructions_of-requires-clause-cell : goal.obstructions_of-requires-clause-cell
obstructions_of-requires-clause-cell c =
    let at = c.in-Some-get.ensures.lookup in
    subst MacroKeeps (sym at.1) (c.requires.macros c.in-Some.place c.in-Some-get.cell.now at.3.0)

pub returns-in-Some-get-clause-obstructions : goal.returns-in-Some-get-clause-obstructions
returns-in-Some-get-clause-obstructions c =
    let at = c.in-Some-get.ensures.lookup in
    let is : obstructions_at c.args.tech.now c.args.units c.args.placed (macro_at c.args.macros.now c.args.place)
    ≡ obstructions_of c.args.tech.now c.args.units c.args.placed c.in-Some-get.cell.now =
    ap (obstructions_at c.args.tech.now c.args.units c.args.placed) (found c.args.macros.now c.args.place c.in-Some.place c.in-Some-get.cell.now c.in-Some.is at.3.0 at.1) in
    rw is c.obstructions_of.ensures.obstructions

pub returns-in-None-clause-obstructions : goal.returns-in-None-clause-obstructions
returns-in-None-clause-obstructions c =
    let past = c.in-None.ensures.lookup in
    c.new-in-None.ensures.items
    ∙ sym (ap (obstructions_at c.args.tech.now c.args.units c.args.placed) (missed c.args.macros.now c.args.place c.in-Some.place c.in-Some.is past.3))

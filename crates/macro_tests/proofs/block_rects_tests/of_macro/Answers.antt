use Rattle.std.proofs.Common.{sym, subst}
use Rattle.macro_blocks.specs.Limits.{MacroKeeps}
use Rattle.macro_tests.proofs.block_rects_tests.of_macro.Goals as goal

pub parts_of-requires-clause-cell : goal.parts_of-requires-clause-cell
parts_of-requires-clause-cell c =
    let at = c.in-Some.ensures.lookup in
    subst MacroKeeps (sym at.1) (c.requires.macros c.args.place c.in-Some.cell.now at.3.0)

pub obstructions_of-requires-clause-cell : goal.obstructions_of-requires-clause-cell
obstructions_of-requires-clause-cell c =
    let at = c.in-Some.ensures.lookup in
    subst MacroKeeps (sym at.1) (c.requires.macros c.args.place c.in-Some.cell.now at.3.0)

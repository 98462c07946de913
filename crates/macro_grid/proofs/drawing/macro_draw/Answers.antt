use Rattle.std.proofs.Common.{List, All, sym, subst}
use Rattle.placed_blocks.specs.declared.block.PlacedBlock.{PlacedBlock}
use Rattle.placed_blocks.specs.Limits.{BlockKeeps}
use Rattle.macro_grid.specs.declared.error.MacroError.TheVariants.{Draw}
use Rattle.macro_grid.specs.Drawing.{IsMacroDrawing, IsMacroRefused}
use Rattle.macro_grid.specs.inside.Drawn.{IsDrawn}
use Rattle.macro_grid.specs.inside.Refused.{IsUndrawn}
use Rattle.macro_grid.proofs.Drawn.{is_drawing}
use Rattle.macro_grid.proofs.Passed.{passed_on}
use Rattle.macro_grid.proofs.Refusals.{unlaid, undrawn}
use Rattle.macro_grid.proofs.drawing.macro_draw.Goals as goal

pub drawn-requires-clause-placed : goal.drawn-requires-clause-placed
drawn-requires-clause-placed c =
    subst (λ (ps : List PlacedBlock). All (BlockKeeps c.args.tech.now) ps) (sym c.deref.ensures.value) c.in_ok-laid.ensures.placed

pub returns-in_err-laid-clause-drawing : goal.returns-in_err-laid-clause-drawing
returns-in_err-laid-clause-drawing c =
    let tech = c.args.tech.now in
    let cells = c.args.cells.now in
    let blocks = c.args.blocks.now in
    let design = c.args.design.now in
    let script = c.args.script.now in
    let error = c.in_err-laid.field-0.0 in
    passed_on (IsMacroDrawing tech cells blocks design script) (IsMacroRefused tech cells blocks design script) c.from_residual.result error c.from_residual.ensures.1
    (unlaid tech cells blocks design script error c.in_err-laid.ensures.lays)

pub returns-in_err-drawn-clause-drawing : goal.returns-in_err-drawn-clause-drawing
returns-in_err-drawn-clause-drawing c =
    let tech = c.args.tech.now in
    let cells = c.args.cells.now in
    let blocks = c.args.blocks.now in
    let design = c.args.design.now in
    let script = c.args.script.now in
    let laid = c.in_ok-laid.laid in
    let error = c.in_err-drawn.field-0.0 in
    let undone : IsUndrawn tech laid.plan laid.placed.items error =
    subst (λ (ps : List PlacedBlock). IsUndrawn tech laid.plan ps error) c.deref.ensures.value c.in_err-drawn.ensures.drawn in
    passed_on (IsMacroDrawing tech cells blocks design script) (IsMacroRefused tech cells blocks design script) c.from_residual-in_err-drawn.result (Draw error)
    c.from_residual-in_err-drawn.ensures.1 (undrawn tech cells blocks design script laid.plan laid.placed.items error c.in_ok-laid.ensures.lays undone)

pub returns-clause-drawing : goal.returns-clause-drawing
returns-clause-drawing c =
    let tech = c.args.tech.now in
    let laid = c.in_ok-laid.laid in
    let drawn = c.in_ok-drawn.drawn in
    let is : IsDrawn tech laid.plan laid.placed.items drawn =
    subst (λ (ps : List PlacedBlock). IsDrawn tech laid.plan ps drawn) c.deref.ensures.value c.in_ok-drawn.ensures.drawn in
    is_drawing tech c.args.cells.now c.args.blocks.now c.args.design.now c.args.script.now laid.plan laid.placed.items drawn c.in_ok-laid.ensures.lays is

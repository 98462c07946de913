use Rattle.macro_grid.specs.inside.Drawn.{IsDrawn}
use Rattle.macro_grid.specs.inside.Refused.{IsUndrawn}
use Rattle.macro_grid.proofs.Drawn.{is_drawn, pieces_stand, stacks_stand, few_stand}
use Rattle.macro_grid.proofs.Passed.{passed_on}
use Rattle.macro_grid.proofs.Refusals.{lines_many, not_joined}
use Rattle.macro_grid.proofs.drawing.drawn.Goals as goal

pub put_together-requires-clause-few : goal.put_together-requires-clause-few
put_together-requires-clause-few c = c.in_ok-stacks.ensures.stacks.1.few_pieces

pub returns-in_err-cut-clause-drawn : goal.returns-in_err-cut-clause-drawn
returns-in_err-cut-clause-drawn c =
    let tech = c.args.tech.now in
    let plan = c.args.plan in
    let placed = c.args.placed.now in
    let error = c.in_err-cut.field-0.0 in
    passed_on (IsDrawn tech plan placed) (IsUndrawn tech plan placed) c.from_residual.result error c.from_residual.ensures.1
    (lines_many tech plan placed error c.in_err-cut.ensures.refused)

pub returns-in_err-stacks-clause-drawn : goal.returns-in_err-stacks-clause-drawn
returns-in_err-stacks-clause-drawn c =
    let tech = c.args.tech.now in
    let plan = c.args.plan in
    let placed = c.args.placed.now in
    let cut = c.in_ok-cut.cut in
    let error = c.in_err-stacks.field-0.0 in
    passed_on (IsDrawn tech plan placed) (IsUndrawn tech plan placed) c.from_residual-in_err-stacks.result error c.from_residual-in_err-stacks.ensures.1
    (not_joined tech plan placed cut.straps.items cut.pieces.items error c.in_ok-cut.ensures.cut.pieces c.in_err-stacks.ensures.stacks)

pub returns-clause-drawn : goal.returns-clause-drawn
returns-clause-drawn c =
    let cut = c.in_ok-cut.cut in
    is_drawn c.args.tech.now c.args.plan c.args.placed.now cut.straps.items cut.pieces.items c.in_ok-stacks.stacks.items c.in_ok-drawn.drawn
    c.in_ok-cut.ensures.cut.pieces c.in_ok-stacks.ensures.stacks c.in_ok-stacks.ensures.apart c.in_ok-drawn.ensures.grid c.in_ok-drawn.ensures.written
    c.in_ok-drawn.ensures.pins

pub returns-clause-pieces : goal.returns-clause-pieces
returns-clause-pieces c =
    pieces_stand c.args.tech.now c.args.plan c.args.placed.now c.in_ok-cut.cut.pieces.items c.in_ok-stacks.stacks.items c.in_ok-drawn.drawn.grid
    c.in_ok-cut.ensures.keep c.in_ok-cut.ensures.facts c.in_ok-stacks.ensures.stacks c.in_ok-drawn.ensures.grid

pub returns-clause-stacks : goal.returns-clause-stacks
returns-clause-stacks c =
    stacks_stand c.args.tech.now c.args.plan c.in_ok-cut.cut.pieces.items c.in_ok-stacks.stacks.items c.in_ok-drawn.drawn.grid c.in_ok-stacks.ensures.facts
    c.in_ok-drawn.ensures.grid

pub returns-clause-counts : goal.returns-clause-counts
returns-clause-counts c =
    few_stand c.args.tech.now c.args.plan c.args.placed.now c.in_ok-cut.cut.pieces.items c.in_ok-stacks.stacks.items c.in_ok-drawn.drawn.grid
    c.in_ok-stacks.ensures.stacks c.in_ok-drawn.ensures.grid

use Rattle.std.proofs.Common.{◌≡◌, List, All, subst, sym, ◌∙◌}
use Rattle.geom_rect.specs.declared.drawn.Drawn.{Drawn}
use Rattle.grid_pieces.specs.declared.piece.Block.{Block}
use Rattle.grid_pieces.specs.Limits.{DrawnKeeps, OneAxis}
use Rattle.grid_pieces.specs.Piece.{ArePieces}
use Rattle.pin_shapes.specs.Pins.{pin_shapes}
use Rattle.grid_shapes.specs.Laws.PiecesKeep.{drawn_keep, all_facts, all_apart}
use Rattle.macro_grid.proofs.cutting.pins_of.Goals as goal

pub pieces-requires : goal.pieces-requires
pieces-requires c =
    let tech = c.args.tech.now in
    let plan = c.args.plan.now in
    let shapes = c.in_ok-shapes.shapes.items in
    record {
      shapes = subst (λ (ss : List Drawn). All DrawnKeeps ss) (sym c.deref.ensures.value) (drawn_keep tech plan shapes c.in_ok-shapes.ensures.keep);
      one_axis = subst (λ (ss : List Drawn). OneAxis ss) (sym c.deref.ensures.value) c.in_ok-shapes.ensures.one_axis;
    }

pub returns-clause-pins : goal.returns-clause-pins
returns-clause-pins c =
    let pins = c.in_ok-pins.pins.items in
    let shapes : c.deref.result.now ≡ pin_shapes c.args.tech.now c.args.plan.now.domains c.args.placed.now = c.deref.ensures.value ∙ c.in_ok-shapes.ensures.shapes in
    subst (λ (bs : List Block). ArePieces (pin_shapes c.args.tech.now c.args.plan.now.domains c.args.placed.now) bs pins) c.as_slice-blocks.ensures
    (subst (λ (ss : List Drawn). ArePieces ss c.as_slice-blocks.result.now pins) shapes c.in_ok-pins.ensures.pieces)

pub returns-clause-facts : goal.returns-clause-facts
returns-clause-facts c =
    let shapes = c.in_ok-shapes.shapes.items in
    let pins = c.in_ok-pins.pins.items in
    all_facts c.args.tech.now c.args.plan.now shapes c.as_slice-blocks.result.now pins c.in_ok-shapes.ensures.keep
    (subst (λ (ss : List Drawn). ArePieces ss c.as_slice-blocks.result.now pins) c.deref.ensures.value c.in_ok-pins.ensures.pieces)

pub returns-clause-apart : goal.returns-clause-apart
returns-clause-apart c = all_apart c.deref.result.now c.as_slice-blocks.result.now c.in_ok-pins.pins.items c.in_ok-pins.ensures.pieces

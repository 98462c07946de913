use Rattle.std.proofs.Common.{List, All, subst, sym}
use Rattle.geom_rect.specs.declared.drawn.Drawn.{Drawn}
use Rattle.grid_pieces.specs.declared.piece.Block.{Block}
use Rattle.grid_pieces.specs.Limits.{DrawnKeeps, OneAxis}
use Rattle.grid_pieces.specs.Piece.{ArePieces}
use Rattle.grid_shapes.specs.Laws.PiecesKeep.{drawn_keep, one_axis, all_facts, all_apart}
use Rattle.grid_shapes.proofs.drawing.pieces_of.Goals as goal

pub pieces-requires : goal.pieces-requires
pieces-requires c =
    let tech = c.args.tech.now in
    let plan = c.args.plan.now in
    let shapes = c.in_ok-shapes.shapes.items in
    record {
      shapes = subst (λ (ss : List Drawn). All DrawnKeeps ss) (sym c.deref.ensures.value) (drawn_keep tech plan shapes c.in_ok-shapes.ensures.keep);
      one_axis = subst (λ (ss : List Drawn). OneAxis ss) (sym c.deref.ensures.value) (one_axis tech plan shapes c.in_ok-shapes.ensures.keep);
    }

pub returns-clause-pieces : goal.returns-clause-pieces
returns-clause-pieces c =
    let shapes = c.in_ok-shapes.shapes.items in
    let pieces = c.in_ok-pieces.pieces.items in
    let are : ArePieces shapes c.args.plan.now.blocks pieces = subst (λ (bs : List Block). ArePieces shapes bs pieces) c.as_slice-blocks.ensures
    (subst (λ (ss : List Drawn). ArePieces ss c.as_slice-blocks.result.now pieces) c.deref.ensures.value c.in_ok-pieces.ensures.pieces) in
    record { shapes = shapes; are_shapes = c.in_ok-shapes.ensures.shapes; are_pieces = are }

pub returns-clause-facts : goal.returns-clause-facts
returns-clause-facts c =
    let shapes = c.in_ok-shapes.shapes.items in
    let pieces = c.in_ok-pieces.pieces.items in
    let are : ArePieces shapes c.as_slice-blocks.result.now pieces = subst (λ (ss : List Drawn). ArePieces ss c.as_slice-blocks.result.now pieces) c.deref.ensures.value c.in_ok-pieces.ensures.pieces in
    all_facts c.args.tech.now c.args.plan.now shapes c.as_slice-blocks.result.now pieces c.in_ok-shapes.ensures.keep are

pub returns-clause-apart : goal.returns-clause-apart
returns-clause-apart c =
    all_apart c.deref.result.now c.as_slice-blocks.result.now c.in_ok-pieces.pieces.items c.in_ok-pieces.ensures.pieces

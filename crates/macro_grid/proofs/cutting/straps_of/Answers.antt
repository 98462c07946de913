use Rattle.std.proofs.Common.{List, All, subst, sym}
use Rattle.geom_rect.specs.declared.drawn.Drawn.{Drawn}
use Rattle.grid_pieces.specs.Limits.{DrawnKeeps, OneAxis}
use Rattle.grid_pieces.specs.Piece.{ArePieces}
use Rattle.grid_shapes.specs.Laws.PiecesKeep.{drawn_keep, all_facts, all_apart}
use Rattle.macro_grid.proofs.cutting.straps_of.Goals as goal

pub pieces-requires : goal.pieces-requires
pieces-requires c =
    let tech = c.args.tech.now in
    let plan = c.args.plan.now in
    let shapes = c.in_ok-shapes.shapes.items in
    record {
      shapes = subst (λ (ss : List Drawn). All DrawnKeeps ss) (sym c.deref.ensures.value) (drawn_keep tech plan shapes c.in_ok-shapes.ensures.keep);
      one_axis = subst (λ (ss : List Drawn). OneAxis ss) (sym c.deref.ensures.value) c.in_ok-shapes.ensures.one_axis;
    }

pub returns-clause-straps : goal.returns-clause-straps
returns-clause-straps c =
    let shapes = c.in_ok-shapes.shapes.items in
    let straps = c.in_ok-straps.straps.items in
    record {
      shapes = shapes;
      are_shapes = c.in_ok-shapes.ensures.shapes;
      are_straps = subst (λ (ss : List Drawn). ArePieces ss c.args.blocks.now straps) c.deref.ensures.value c.in_ok-straps.ensures.pieces;
    }

pub returns-clause-facts : goal.returns-clause-facts
returns-clause-facts c =
    let shapes = c.in_ok-shapes.shapes.items in
    let straps = c.in_ok-straps.straps.items in
    all_facts c.args.tech.now c.args.plan.now shapes c.args.blocks.now straps c.in_ok-shapes.ensures.keep
    (subst (λ (ss : List Drawn). ArePieces ss c.args.blocks.now straps) c.deref.ensures.value c.in_ok-straps.ensures.pieces)

pub returns-clause-apart : goal.returns-clause-apart
returns-clause-apart c = all_apart c.deref.result.now c.args.blocks.now c.in_ok-straps.straps.items c.in_ok-straps.ensures.pieces

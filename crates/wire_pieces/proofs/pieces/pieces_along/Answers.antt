-- The shapes along one axis may be cut into pieces, and their pieces are those along it.
use Rattle.std.proofs.Common.{[], All, subst, sym, ◌∙◌}
use Rattle.std.proofs.lemmas.List.Elements.{All-filter}
use Rattle.grid_pieces.specs.Limits.{DrawnKeeps, OneAxis}
use Rattle.grid_pieces.specs.Piece.{ArePieces}
use Rattle.wire_pieces.specs.inside.Axes.{goes_along}
use Rattle.wire_pieces.proofs.Along.{one_axis, pieces_along}
use Rattle.wire_pieces.proofs.pieces.pieces_along.Goals as goal

pub pieces-requires-clause-shapes : goal.pieces-requires-clause-shapes
pieces-requires-clause-shapes c =
    subst (All DrawnKeeps) (sym (c.deref.ensures.value ∙ c.in_ok-some.ensures)) (All-filter (goes_along c.args.upright) DrawnKeeps c.args.shapes.now c.requires)

pub pieces-requires-clause-one_axis : goal.pieces-requires-clause-one_axis
pieces-requires-clause-one_axis c = subst OneAxis (sym (c.deref.ensures.value ∙ c.in_ok-some.ensures)) (one_axis c.args.shapes.now c.args.upright)

pub returns-clause-pieces : goal.returns-clause-pieces
returns-clause-pieces c =
    let cut = c.in_ok-cut.cut.items in
    pieces_along c.args.shapes.now c.args.upright cut (subst (λ shapes. ArePieces shapes [] cut) (c.deref.ensures.value ∙ c.in_ok-some.ensures) c.in_ok-cut.ensures.pieces)

-- The pieces of shapes that keep what is asked of shapes keep what is asked of pieces.
use Rattle.std.proofs.Common.{ℤ, pos, ◌-ℤ◌, ◌+ℤ◌, List, All, subst, arith}
use Rattle.std.proofs.lemmas.Int.{ints}
use Rattle.std.proofs.lemmas.List.Elements.{All-contains}
use Rattle.geom_rect.specs.declared.direction.Axis.{Axis}
use Rattle.geom_rect.specs.declared.direction.Axis.TheVariants.{X, Y}
use Rattle.geom_rect.specs.declared.drawn.Drawn.{Drawn}
use Rattle.geom_rect.specs.Rect.{IsCoordinate, HasCoordinates}
use Rattle.grid_pieces.specs.declared.line.Line.{Line}
use Rattle.grid_pieces.specs.declared.piece.Piece.{Piece}
use Rattle.grid_pieces.specs.declared.piece.Block.{Block}
use Rattle.geom_rect.specs.Drawn.{half, centred}
use Rattle.grid_pieces.specs.Limits.{WidthKeeps, DrawnKeeps, PieceKeeps}
use Rattle.grid_pieces.specs.Piece.{IsPiece}
use Rattle.grid_pieces.specs.Laws.Geometry.{edges}

ends : (axis : Axis) (centre width from to : ℤ) → HasCoordinates (centred axis centre width from to) → IsCoordinate from × IsCoordinate to
ends X centre width from to h = (h.0, h.2)
ends Y centre width from to h = (h.1, h.3)

coordinates : (axis : Axis) (centre width from to : ℤ) → IsCoordinate (centre -ℤ half width) → IsCoordinate (centre +ℤ half width) → IsCoordinate from → IsCoordinate to
    → HasCoordinates (centred axis centre width from to)
coordinates X centre width from to low high begin end = (begin, low, end, high)
coordinates Y centre width from to low high begin end = (low, begin, high, end)

-- what a line takes from a shape on it
abbrev OfLine : Line → Type 0
OfLine l = WidthKeeps l.width × IsCoordinate (l.centre -ℤ half l.width) × IsCoordinate (l.centre +ℤ half l.width)

pub piece_keeps : (shapes : List Drawn) (blocks : List Block) (p : Piece) → All DrawnKeeps shapes → IsPiece shapes blocks p → PieceKeeps p
piece_keeps shapes blocks p keep is =
    let some = is.cells.some in
    let first = (is.cells.each p.from (omega (arith, ints), some)).0 in
    let last = (is.cells.each (p.to -ℤ pos 1) (omega (arith, ints), omega (arith, ints))).0 in
    let s = first.0 in
    let t = last.0 in
    let s_keeps = All-contains DrawnKeeps shapes s keep first.1 in
    let t_keeps = All-contains DrawnKeeps shapes t keep last.1 in
    let low_end = (ends s.axis s.centre s.width s.from s.to s_keeps.1).0 in
    let high_end = (ends t.axis t.centre t.width t.from t.to t_keeps.1).1 in
    let s_end = (ends s.axis s.centre s.width s.from s.to s_keeps.1).1 in
    let t_end = (ends t.axis t.centre t.width t.from t.to t_keeps.1).0 in
    let across = edges s.axis s.centre s.width s.from s.to s_keeps.1 in
    let of : OfLine (record { net = p.net; layer = p.layer; axis = p.axis; centre = p.centre; width = p.width }) = subst OfLine first.2.0 (s_keeps.0, across.0, across.1) in
    let from_low = first.2.1.0 in
    let from_high = first.2.1.1 in
    let to_low = last.2.1.0 in
    let to_high = last.2.1.1 in
    let from : IsCoordinate p.from = (omega (arith, ints), omega (arith, ints)) in
    let to : IsCoordinate p.to = (omega (arith, ints), omega (arith, ints)) in
    (of.0, some, coordinates p.axis p.centre p.width p.from p.to of.1 of.2 from to)

-- A piece that has metal of a shape has a point of it, and so it is found.
use Rattle.std.proofs.Common.{◌≡◌, ◌↔◌, IsTrue, ◌==◌, int_le, ℕ, ℤ, pos, ◌-ℤ◌, ◌+ℤ◌, ◌≤ℤ◌, ◌<ℤ◌, List, All, [], ◌∷◌, ◌++◌, refl, sym, ap, subst, eq-eqb, arith}
use Rattle.std.specs.Int.{int_max, int_min}
use Rattle.std.specs.Int.Signed.{lt_z}
use Rattle.std.proofs.lemmas.Int.{ints, clamps}
use Rattle.std.proofs.lemmas.List.Elements.{All-contains}
use Rattle.geom_rect.specs.declared.direction.Axis.{Axis}
use Rattle.geom_rect.specs.declared.direction.Axis.TheVariants.{X, Y}
use Rattle.geom_rect.specs.declared.drawn.Drawn.{Drawn}
use Rattle.geom_rect.specs.declared.rect.Rect.{Rect}
use Rattle.geom_rect.specs.Drawn.{half, strip, centred, drawn_rect}
use Rattle.grid_pieces.specs.declared.line.Line.{Line}
use Rattle.grid_pieces.specs.declared.piece.Piece.{Piece}
use Rattle.grid_pieces.specs.Limits.{PieceKeeps}
use Rattle.grid_pieces.specs.Line.{piece_rect}
use Rattle.grid_pieces.specs.Laws.Found.{and_of}
use Rattle.grid_pieces.specs.Laws.Geometry.{half_within}
use Rattle.grid_stacks.specs.Crossing.{At}
use Rattle.rect_index.specs.Entry.{share, touches, is_at}
use Rattle.pin_pieces.specs.Pins.{ShareCell}
use Rattle.pin_pieces.specs.declared.pin.PinPiece.{PinPiece}
use Rattle.pin_pieces.specs.inside.Steps.{Adds, ListsAll, OfAny, piece_entry, IsPieceAt, IsOnShape}
use Rattle.pin_pieces.proofs.Growing.{adds_none, adds_push, adds_same}
use Rattle.pin_pieces.proofs.Indexed.{one_at}

le_true : (a b : ℤ) → a ≤ℤ b → IsTrue (int_le a b)
le_true a b h = sym (omega (arith, ints))

share_true : (low high from to : ℤ) → from ≤ℤ high → low ≤ℤ to → IsTrue (share low high from to)
share_true low high from to h g = and_of (int_le from high) (int_le low to) (le_true from high h) (le_true low to g)

-- two strips of one width that have a cell in common share a point
strips_touch : (axis : Axis) (a b c d low high t : ℤ) → low ≤ℤ high → (a ≤ℤ t) × (t <ℤ b) → (c ≤ℤ t) × (t <ℤ d) → IsTrue (touches (strip axis a b low high) (strip axis c d low high))
strips_touch X a b c d low high t order one other =
    and_of (share a b c d) (share low high low high)
    (share_true a b c d (omega (arith, ints, one.1, other.0)) (omega (arith, ints, one.0, other.1))) (share_true low high low high order order)
strips_touch Y a b c d low high t order one other =
    and_of (share low high low high) (share a b c d)
    (share_true low high low high order order) (share_true a b c d (omega (arith, ints, one.1, other.0)) (omega (arith, ints, one.0, other.1)))

low_high : (centre width : ℤ) → pos 0 ≤ℤ half width → (centre -ℤ half width) ≤ℤ (centre +ℤ half width)
low_high centre width wide = omega (arith, ints)

pub touched : (piece : Piece) (shape : Drawn) (number : ℕ) → PieceKeeps piece → ShareCell piece shape → IsTrue (is_at shape.net (drawn_rect shape) (piece_entry number piece))
touched piece shape number keeps (line, (t, in_piece, in_shape)) =
    let wide : pos 0 ≤ℤ piece.width = omega (arith, ints, keeps.0.0) in
    let order = low_high piece.centre piece.width (half_within piece.width wide).0 in
    let metal : drawn_rect shape ≡ centred piece.axis piece.centre piece.width shape.from shape.to =
    ap (λ (l : Line). centred l.axis l.centre l.width shape.from shape.to) line in
    let net : piece.net ≡ shape.net = sym (ap (λ (l : Line). l.net) line) in
    and_of (piece.net == shape.net) (touches (drawn_rect shape) (piece_rect piece)) (eq-eqb piece.net shape.net net)
    (subst (λ (window : Rect). IsTrue (touches window (piece_rect piece))) (sym metal)
    (strips_touch piece.axis shape.from shape.to piece.from piece.to (piece.centre -ℤ half piece.width) (piece.centre +ℤ half piece.width) t order in_shape in_piece))

-- there is a cell in both runs
pub common_cell : (a b c d : ℤ) → IsTrue (lt_z (int_max a c) (int_min b d)) ↔ ((t : ℤ) × ((a ≤ℤ t) × (t <ℤ b)) × ((c ≤ℤ t) × (t <ℤ d)))
common_cell a b c d = (
  λ h. (
    int_max a c,
    (omega (arith, ints, clamps), omega (arith, ints, clamps)),
    (omega (arith, ints, clamps), omega (arith, ints, clamps)),
  ),
  λ w. let one = w.1 in let other = w.2 in let less : int_max a c <ℤ int_min b d = omega (arith, ints, clamps) in sym (omega (arith, ints, less)),
)

-- ## the pieces found, one after another

-- the pair of a number that is found
abbrev pub Gives : ℕ → List Piece → Drawn → ℕ → PinPiece → Type 0
Gives component pieces shape number pin = (number ≡ pin.piece) × IsOnShape component pieces shape pin

pub one_more : (component : ℕ) (pieces : List Piece) (shape : Drawn) (number : ℕ) (piece : Piece) (pins : List PinPiece) → At pieces number piece → ShareCell piece shape
    → Adds (Gives component pieces shape number) pins (pins ++ record { component = component; piece = number } ∷ [])
one_more component pieces shape number piece pins at shares =
    adds_push (Gives component pieces shape number) pins (record { component = component; piece = number })
    (refl, record { component_is = refl; piece = piece; at = at; shares = shares })
    (λ pin h. λ i. record { component = h.1.component_is i; piece = h.0 i })

pub none_more : (component : ℕ) (pieces : List Piece) (shape : Drawn) (number : ℕ) (piece : Piece) (pins : List PinPiece) → At pieces number piece → (ShareCell piece shape → ⊥)
    → Adds (Gives component pieces shape number) pins pins
none_more component pieces shape number piece pins at apart =
    adds_none (Gives component pieces shape number) pins
    (λ pin h.
    let there : At pieces number h.1.piece = subst (λ k. At pieces k h.1.piece) (sym h.0) h.1.at in
    apart (subst (λ (p : Piece). ShareCell p shape) (sym (one_at pieces number piece h.1.piece at there)) h.1.shares))

-- each that has metal of the shape is among those found
pub all_found : (component : ℕ) (pieces : List Piece) (shape : Drawn) (numbers : List ℕ) (old new : List PinPiece) → All PieceKeeps pieces → ListsAll (IsPieceAt pieces shape) numbers
    → Adds (OfAny (Gives component pieces shape) numbers) old new → Adds (IsOnShape component pieces shape) old new
all_found component pieces shape numbers old new keep lists =
    adds_same (OfAny (Gives component pieces shape) numbers) (IsOnShape component pieces shape) old new
    (λ pin h. h.2.1)
    (λ pin h.
    let keeps : PieceKeeps h.piece = All-contains PieceKeeps pieces h.piece keep (pin.piece, h.at.0, h.at.1) in
    (pin.piece, (lists pin.piece).1 (record { piece = h.piece; at = h.at; there = touched h.piece shape pin.piece keeps h.shares }), (refl, h)))

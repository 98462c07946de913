-- What the pieces of pins are found by, one step after another.
use Rattle.std.specs.Prelude.{◌≡◌, ◌↔◌, ◌⊎◌, ℕ, IsTrue, List, Contains}
use Rattle.geom_rect.specs.Drawn.{drawn_rect}
use Rattle.geom_rect.specs.declared.drawn.Drawn.{Drawn}
use Rattle.grid_pieces.specs.declared.piece.Piece.{Piece}
use Rattle.grid_pieces.specs.Line.{piece_rect}
use Rattle.grid_pieces.specs.Piece.{Among}
use Rattle.grid_stacks.specs.Crossing.{At}
use Rattle.rect_index.specs.Entry.{is_at}
use Rattle.rect_index.specs.declared.entry.Entry.{Entry}
use Rattle.pin_pieces.specs.Pins.{ShareCell}
use Rattle.pin_pieces.specs.declared.pin.PinPiece.{PinPiece}

-- The list has exactly the things with the property.
abbrev pub ListsAll : {X : Type 0} → (X → Type 0) → List X → Type 0
ListsAll {X} P xs = (x : X) → Contains xs x ↔ P x

-- A list takes the things with the property, and no other.
abbrev pub Adds : {X : Type 0} → (X → Type 0) → List X → List X → Type 0
Adds {X} P old new = (x : X) → Contains new x ↔ (Contains old x ⊎ P x)

-- The things that one of the list gives.
abbrev pub OfAny : {X Y : Type 0} → (Y → X → Type 0) → List Y → X → Type 0
OfAny gives ys x = Among (λ y. gives y x) ys

-- The metal of a piece, by its net, with the piece's number.
abbrev pub piece_entry : ℕ → Piece → Entry ℕ
piece_entry number piece = record { group = piece.net; rect = piece_rect piece; item = number }

-- The entry is that of a piece with its number.
pub record IsPieceEntry (pieces : List Piece) (entry : Entry ℕ) : Type 0 where
  pub piece : Piece
  pub at : At pieces entry.item piece
  pub is : entry ≡ piece_entry entry.item piece

-- The piece with this number is of the shape's net and has a point of its metal.
pub record IsPieceAt (pieces : List Piece) (shape : Drawn) (number : ℕ) : Type 0 where
  pub piece : Piece
  pub at : At pieces number piece
  pub there : IsTrue (is_at shape.net (drawn_rect shape) (piece_entry number piece))

-- The piece with this number has metal of the shape.
pub record IsOnShape (component : ℕ) (pieces : List Piece) (shape : Drawn) (pin : PinPiece) : Type 0 where
  pub component_is : component ≡ pin.component
  pub piece : Piece
  pub at : At pieces pin.piece piece
  pub shares : ShareCell piece shape

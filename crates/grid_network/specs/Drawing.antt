-- A drawn grid with its supply pads and load taps, and the junctions along its pieces.
use Rattle.std.specs.Prelude.{◌≡◌, ◌⊎◌, ℕ, ◌<◌, ℤ, pos, ◌<ℤ◌, ◌≤ℤ◌, List, Any, length, slice_index_or}
use Rattle.geom_rect.specs.declared.direction.Axis.{Axis}
use Rattle.geom_rect.specs.declared.direction.Axis.TheVariants.{X, Y}
use Rattle.geom_rect.specs.declared.drawn.Shape.TheVariants.{Stripe}
use Rattle.grid_pieces.specs.declared.grid.Grid.{Grid}
use Rattle.grid_pieces.specs.declared.piece.Piece.{Piece}
use Rattle.grid_pieces.specs.declared.piece.StackAt.{StackAt}
use Rattle.grid_network.specs.declared.key.Key.{Key}
use Rattle.grid_network.specs.declared.pad.PadOn.{PadOn}
use Rattle.grid_network.specs.declared.pad.Tap.{Tap}

-- a drawn grid with its pads and its load taps
pub record Drawing : Type 0 where
  pub grid : Grid
  pub pads : List PadOn
  pub taps : List Tap

-- the point of a layer of a net that lies so far along one axis, on a line at `across` on the other
abbrev pub key_along : Axis → ℕ → ℕ → ℤ → ℤ → Key
key_along X net layer across along = record { net = net; layer = layer; x = along; y = across }
key_along Y net layer across along = record { net = net; layer = layer; x = across; y = along }

-- the point so far along the centre line of a piece
abbrev pub key_on : Piece → ℤ → Key
key_on piece along = key_along piece.axis piece.net piece.layer piece.centre along

-- the point of a stack on a layer
abbrev pub key_of_stack : StackAt → ℕ → Key
key_of_stack s layer = record { net = s.net; layer = layer; x = s.x; y = s.y }

-- the piece with a number; beyond the last piece, one without metal
abbrev pub piece_at : List Piece → ℕ → Piece
piece_at pieces number = slice_index_or pieces number
    (record { net = 0; layer = 0; axis = X; centre = pos 0; width = pos 0; from = pos 0; to = pos 0; shape = Stripe })

-- the point so far along the piece with a number
abbrev pub key_at : List Piece → ℕ → ℤ → Key
key_at pieces number along = key_on (piece_at pieces number) along

-- one of the stacks has its lower or its upper end at the point
abbrev pub StackEndsAt : List StackAt → Key → Type 0
StackEndsAt stacks key =
    Any (λ s. (key ≡ key_of_stack s s.stack.from) ⊎ (key ≡ key_of_stack s s.stack.to)) stacks

-- so far along its centre line the piece has an end of a stack
abbrev pub HasStackEnd : List StackAt → Piece → ℤ → Type 0
HasStackEnd stacks piece along =
    (piece.from ≤ℤ along) × (along ≤ℤ piece.to) × StackEndsAt stacks (key_on piece along)

-- so far along the piece with the number a pad stands
abbrev pub HasPad : List PadOn → ℕ → ℤ → Type 0
HasPad pads number along = Any (λ p. (p.piece ≡ number) × (p.along ≡ along)) pads

-- so far along the piece with the number a load is tapped
abbrev pub HasTap : List Tap → ℕ → ℤ → Type 0
HasTap taps number along = Any (λ t. (t.piece ≡ number) × (t.along ≡ along)) taps

-- a junction of a piece is a place along it at which a stack ends, a pad stands or a load is tapped
pub record IsJunction (d : Drawing) (number : ℕ) (along : ℤ) : Type 0 where
  pub of_a_piece : number < length d.grid.pieces
  pub joins : HasStackEnd d.grid.stacks (piece_at d.grid.pieces number) along
      ⊎ HasPad d.pads number along ⊎ HasTap d.taps number along

-- two junctions of a piece are neighbours where no junction of the piece lies strictly between
pub record AreNeighbours (d : Drawing) (number : ℕ) (near far : ℤ) : Type 0 where
  pub near_joins : IsJunction d number near
  pub far_joins : IsJunction d number far
  pub rising : near <ℤ far
  pub none_between : (along : ℤ) → IsJunction d number along → near <ℤ along → along <ℤ far → ⊥

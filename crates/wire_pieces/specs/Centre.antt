-- Which places lie on the centre line of a piece.
use Rattle.std.specs.Prelude.{◌≡◌, ℕ, ℤ, ◌≤ℤ◌, ◌<ℤ◌, ◌⊎◌, List}
use Rattle.geom_rect.specs.declared.direction.Axis.{Axis}
use Rattle.geom_rect.specs.declared.direction.Axis.TheVariants.{X, Y}
use Rattle.grid_pieces.specs.declared.piece.Piece.{Piece}
use Rattle.grid_pieces.specs.Piece.{Among}

-- How far along an axis a place lies, and where across it.
abbrev pub along_of : Axis → ℤ → ℤ → ℤ
along_of X x y = x
along_of Y x y = y

abbrev pub across_of : Axis → ℤ → ℤ → ℤ
across_of X x y = y
across_of Y x y = x

-- The place lies on the centre line of a piece of the net on the layer, ends included.
pub record IsOnCentre (net layer : ℕ) (x y : ℤ) (piece : Piece) : Type 0 where
  pub of_net : piece.net ≡ net
  pub on_layer : piece.layer ≡ layer
  pub across : piece.centre ≡ across_of piece.axis x y
  pub from : piece.from ≤ℤ along_of piece.axis x y
  pub to : along_of piece.axis x y ≤ℤ piece.to

-- Some piece has it there.
abbrev pub IsHeld : List Piece → ℕ → ℕ → ℤ → ℤ → Type 0
IsHeld pieces net layer x y = Among (IsOnCentre net layer x y) pieces

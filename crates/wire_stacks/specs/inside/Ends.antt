-- Ends of stacks that lie on no piece.
use Rattle.std.specs.Prelude.{◌≡◌, ◌⊎◌, ℕ, ◌<◌, ℤ, List, Some, slice_get}
use Rattle.grid_pieces.specs.declared.piece.Piece.{Piece}
use Rattle.wire_stacks.specs.declared.error.OffError.{OffError}
use Rattle.wire_stacks.specs.declared.error.OffError.TheVariants.{ViaOff, Want}
use Rattle.wire_stacks.specs.declared.made.Made.{Made}
use Rattle.wire_stacks.specs.Stacks.{HasLowEnd, HasHighEnd, HasEnds}

-- The via at the lower end, where that end lies on no piece; else the via at the upper end, where that one does not.
abbrev pub IsMadeOff : List Piece → Made → ℕ → Type 0
IsMadeOff pieces one via = ((HasLowEnd pieces one.at → ⊥) × (one.low ≡ via))
    ⊎ (HasLowEnd pieces one.at × (HasHighEnd pieces one.at → ⊥) × (one.high ≡ via))

abbrev pub OneIsOff : List Piece → Made → OffError → Type 0
OneIsOff pieces one (ViaOff via x y) = IsMadeOff pieces one via × (one.at.x ≡ x) × (one.at.y ≡ y)
OneIsOff pieces one Want = ⊥

-- The first such stack.
pub record IsFirstMade (pieces : List Piece) (made : List Made) (via : ℕ) (x y : ℤ) : Type 0 where
  pub number : ℕ
  pub one : Made
  pub stands : slice_get made number ≡ Some one
  pub off : IsMadeOff pieces one via
  pub at_x : one.at.x ≡ x
  pub at_y : one.at.y ≡ y
  pub before : (k : ℕ) (other : Made) → k < number → slice_get made k ≡ Some other → HasEnds pieces other.at

abbrev pub IsFirstMadeOff : List Piece → List Made → OffError → Type 0
IsFirstMadeOff pieces made (ViaOff via x y) = IsFirstMade pieces made via x y
IsFirstMadeOff pieces made Want = ⊥

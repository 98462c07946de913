-- Points and units of area are squares of side 0 and 1.
use Rattle.std.specs.Prelude.{ℤ, ◌+ℤ◌}
use Rattle.geom_rect.specs.declared.rect.Rect.{Rect}
use Rattle.geom_rect.specs.Rect.{IsBetween, HasPoint}

-- both intervals have one of this length in common, ends included
abbrev pub ShareLength : ℤ → ℤ → ℤ → ℤ → ℤ → Type 0
ShareLength a1 a2 b1 b2 length =
    (z : ℤ) × ((IsBetween a1 a2 z × IsBetween a1 a2 (z +ℤ length))
    × (IsBetween b1 b2 z × IsBetween b1 b2 (z +ℤ length)))

-- the square of this side with its lower left corner at (x, y) lies in the rectangle
abbrev pub HasSquare : Rect → ℤ → ℤ → ℤ → Type 0
HasSquare a x y side = HasPoint a x y × HasPoint a (x +ℤ side) (y +ℤ side)

-- there is a square of this side in both
abbrev pub ShareSquare : Rect → Rect → ℤ → Type 0
ShareSquare a b side = (x : ℤ) × (y : ℤ) × (HasSquare a x y side × HasSquare b x y side)

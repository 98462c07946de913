-- The sum of the ends of a piece is a number of 64 bits.
use Rattle.std.proofs.Common.{ℤ, ◌+ℤ◌, SFits, w64, arith}
use Rattle.std.proofs.lemmas.Int.{ints}
use Rattle.geom_rect.specs.declared.direction.Axis.{Axis}
use Rattle.geom_rect.specs.declared.direction.Axis.TheVariants.{X, Y}
use Rattle.geom_rect.specs.Drawn.{centred}
use Rattle.geom_rect.specs.Rect.{HasCoordinates}

pub sum_fits : (axis : Axis) (centre width from to : ℤ) → HasCoordinates (centred axis centre width from to) → SFits w64 (from +ℤ to)
sum_fits X centre width from to h = let a = h.0 in let b = h.2 in omega (arith, ints)
sum_fits Y centre width from to h = let a = h.1 in let b = h.3 in omega (arith, ints)

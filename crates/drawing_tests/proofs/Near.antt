-- What the tests find out of their pieces and shapes.
use Rattle.std.proofs.Common.{◌^◌, ℤ, pos, neg_ℤ, ◌<ℤ◌, ◌≤ℤ◌, arith}
use Rattle.std.proofs.lemmas.Int.{ints}
use Rattle.geom_rect.specs.declared.direction.Axis.{Axis}
use Rattle.geom_rect.specs.declared.direction.Axis.TheVariants.{X, Y}
use Rattle.geom_rect.specs.Rect.{HasCoordinates}
use Rattle.geom_rect.specs.Drawn.{centred}
use Rattle.grid_pieces.specs.Laws.Geometry.{half_within}

-- a strip that is not too wide and lies near 0 has coordinates
pub near : (axis : Axis) (centre width from to : ℤ) → pos 2 ≤ℤ width → width <ℤ pos (2 ^ 32) → neg_ℤ (pos (2 ^ 60)) ≤ℤ centre → centre ≤ℤ pos (2 ^ 60)
    → neg_ℤ (pos (2 ^ 60)) ≤ℤ from → from ≤ℤ to → to ≤ℤ pos (2 ^ 60) → HasCoordinates (centred axis centre width from to)
near X centre width from to thin wide low high begin long end =
    let halves = half_within width (omega (arith, ints)) in
    ((omega (arith, ints), omega (arith, ints)), (omega (arith, ints), omega (arith, ints)), (omega (arith, ints), omega (arith, ints)), (omega (arith, ints), omega (arith, ints)))
near Y centre width from to thin wide low high begin long end =
    let halves = half_within width (omega (arith, ints)) in
    ((omega (arith, ints), omega (arith, ints)), (omega (arith, ints), omega (arith, ints)), (omega (arith, ints), omega (arith, ints)), (omega (arith, ints), omega (arith, ints)))

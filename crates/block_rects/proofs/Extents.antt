-- Even extents.
use Rattle.std.proofs.Common.{◌≡◌, ℕ, ◌<◌, Bool, ℤ, pos, negsuc, ◌+ℤ◌, ◌-ℤ◌, ◌≤ℤ◌, ◌<ℤ◌, length, arith, ap}
use Rattle.std.proofs.lemmas.Int.{ints}
use Rattle.geom_rect.specs.declared.direction.Axis.{Axis}
use Rattle.geom_rect.specs.declared.direction.Axis.TheVariants.{X, Y}
use Rattle.geom_rect.specs.declared.rect.Rect.{Rect}
use Rattle.geom_rect.specs.Drawn.{half, IsWidth}
use Rattle.geom_rect.specs.Rect.{IsInOrder, IsCoordinate, HasCoordinates}
use Rattle.lef_tech.specs.declared.tech.Tech.{Tech}
use Rattle.via_arrays.specs.Choice.{direction}
use Rattle.block_rects.specs.declared.part.PinPart.{PinPart}
use Rattle.block_rects.specs.Limits.{PartKeeps, size_across}
use Rattle.block_rects.specs.Placed.{even_end, evened}
use Rattle.block_rects.specs.inside.Bounds.{IsSmall}

-- Twice a half is not more, and not below 0.
pub twice_half : (d : ℤ) → pos 0 ≤ℤ d → (pos 0 ≤ℤ half d) × ((half d +ℤ half d) ≤ℤ d)
twice_half (pos n) h = (omega (arith, ints), omega (arith, ints))
twice_half (negsuc n) h = absurd (omega (arith, ints))

half_of_twice : (h : ℤ) → pos 0 ≤ℤ h → half (h +ℤ h) ≡ h
half_of_twice (pos n) is = omega (arith, ints)
half_of_twice (negsuc n) is = absurd (omega (arith, ints))

-- The size of an even extent.
size_is : (low h size : ℤ) → pos 0 ≤ℤ h → size ≡ (low +ℤ h +ℤ h) -ℤ low → size ≡ half size +ℤ half size
size_is low h size is e =
    let twice : size ≡ h +ℤ h = omega (arith, ints, e) in
    let of_size : half size ≡ half (h +ℤ h) = ap half twice in
    omega (arith, ints, twice, of_size, half_of_twice h is)

extent : (low high : ℤ) → low ≤ℤ high → low <ℤ even_end low high → IsWidth (even_end low high -ℤ low)
extent low high le area =
    let h = twice_half (high -ℤ low) (omega (arith, ints)) in
    (omega (arith, ints), size_is low (half (high -ℤ low)) (even_end low high -ℤ low) h.0 (λ i. even_end low high -ℤ low))

below : (low high : ℤ) → low ≤ℤ high → even_end low high ≤ℤ high
below low high le = let h = twice_half (high -ℤ low) (omega (arith, ints)) in omega (arith, ints)

above : (low high : ℤ) → low ≤ℤ high → low ≤ℤ even_end low high
above low high le = let h = twice_half (high -ℤ low) (omega (arith, ints)) in omega (arith, ints)

at : (low high : ℤ) → low ≤ℤ high → IsCoordinate low → IsCoordinate high → IsCoordinate (even_end low high)
at low high le from to =
    let down = below low high le in
    let up = above low high le in
    (omega (arith, ints), omega (arith, ints))

coordinates : (axis : Axis) (rect : Rect) → IsInOrder rect → HasCoordinates rect → HasCoordinates (evened axis rect)
coordinates X rect le at_all = (at_all.0, at_all.1, at_all.2, at rect.y1 rect.y2 le.1 at_all.1 at_all.3)
coordinates Y rect le at_all = (at_all.0, at_all.1, at rect.x1 rect.x2 le.0 at_all.0 at_all.2, at_all.3)

width : (axis : Axis) (rect : Rect) → IsInOrder rect → (evened axis rect).x1 <ℤ (evened axis rect).x2 → (evened axis rect).y1 <ℤ (evened axis rect).y2
    → IsWidth (size_across axis (evened axis rect))
width X rect le wide high = extent rect.y1 rect.y2 le.1 high
width Y rect le wide high = extent rect.x1 rect.x2 le.0 wide

thin : (axis : Axis) (rect : Rect) → IsInOrder rect → IsSmall rect → size_across axis (evened axis rect) <ℤ pos 4294967296
thin X rect le small = let down = below rect.y1 rect.y2 le.1 in let is = small.high in omega (arith, ints)
thin Y rect le small = let down = below rect.x1 rect.x2 le.0 in let is = small.wide in omega (arith, ints)

pub part_keeps : (tech : Tech) (power : Bool) (layer : ℕ) (axis : Axis) (rect : Rect) → axis ≡ direction tech layer → layer < length tech.routing
    → IsInOrder rect → HasCoordinates rect → IsSmall rect
    → (evened (direction tech layer) rect).x1 <ℤ (evened (direction tech layer) rect).x2
    → (evened (direction tech layer) rect).y1 <ℤ (evened (direction tech layer) rect).y2
    → PartKeeps tech (record { layer = layer; power = power; rect = evened (direction tech layer) rect })
part_keeps tech power layer axis rect is within le at_all small wide high = record {
  layer = within;
  wide = wide;
  high = high;
  coordinates = coordinates (direction tech layer) rect le at_all;
  width = width (direction tech layer) rect le wide high;
  thin = thin (direction tech layer) rect le small;
}

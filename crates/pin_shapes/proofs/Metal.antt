-- The metal of a pin as a shape.
use Rattle.std.proofs.Common.{◌≡◌, ℤ, ◌+ℤ◌, ◌-ℤ◌, arith}
use Rattle.std.proofs.lemmas.Int.{ints}
use Rattle.geom_rect.specs.declared.direction.Axis.{Axis}
use Rattle.geom_rect.specs.declared.direction.Axis.TheVariants.{X, Y}
use Rattle.geom_rect.specs.declared.rect.Rect.{Rect}
use Rattle.geom_rect.specs.Drawn.{half, centred, drawn_rect, IsWidth}
use Rattle.lef_tech.specs.declared.tech.Tech.{Tech}
use Rattle.via_arrays.specs.Choice.{direction}
use Rattle.grid_cores.specs.Line.{along, across}
use Rattle.grid_pieces.specs.declared.grid.DomainAt.{DomainAt}
use Rattle.block_rects.specs.declared.part.PinPart.{PinPart}
use Rattle.block_rects.specs.Limits.{size_across, PartKeeps}
use Rattle.pin_shapes.specs.Pins.{pin_shape}

low_end : (low h : ℤ) → low +ℤ h -ℤ h ≡ low
low_end low h = omega (arith, ints)

high_end : (low high h : ℤ) → (high -ℤ low) ≡ h +ℤ h → low +ℤ h +ℤ h ≡ high
high_end low high h even = omega (arith, ints)

same_metal : (axis : Axis) (rect : Rect) → IsWidth (size_across axis rect)
    → centred axis ((across axis rect).from +ℤ half (size_across axis rect)) (size_across axis rect) (along axis rect).from (along axis rect).to ≡ rect
same_metal X rect wide =
    let low = low_end rect.y1 (half (rect.y2 -ℤ rect.y1)) in
    let high = high_end rect.y1 rect.y2 (half (rect.y2 -ℤ rect.y1)) wide.1 in
    λ i. record { x1 = rect.x1; y1 = low i; x2 = rect.x2; y2 = high i }
same_metal Y rect wide =
    let low = low_end rect.x1 (half (rect.x2 -ℤ rect.x1)) in
    let high = high_end rect.x1 rect.x2 (half (rect.x2 -ℤ rect.x1)) wide.1 in
    λ i. record { x1 = low i; y1 = rect.y1; x2 = high i; y2 = rect.y2 }

pub metal : (tech : Tech) (domain : DomainAt) (part : PinPart) → PartKeeps tech part → drawn_rect (pin_shape tech domain part) ≡ part.rect
metal tech domain part keeps = same_metal (direction tech part.layer) part.rect keeps.width

-- The sides of rings lie at coordinates.
use Rattle.std.proofs.Common.{ℕ, ◌+◌, ◌*◌, ◌<◌, ◌≤◌, ◌^◌, ℤ, pos, negsuc, ◌+ℤ◌, ◌-ℤ◌, ◌≤ℤ◌, ◌<ℤ◌, length, arith}
use Rattle.std.proofs.Math.Nat.{mul-le-mul_left}
use Rattle.std.proofs.lemmas.Int.{ints}
use Rattle.std.specs.Prelude.{slice_index}
use Rattle.geom_rect.specs.declared.drawn.Drawn.{Drawn}
use Rattle.geom_rect.specs.declared.rect.Rect.{Rect}
use Rattle.geom_rect.specs.Drawn.{half, drawn_rect}
use Rattle.geom_rect.specs.Rect.{IsCoordinate, HasCoordinates}
use Rattle.ring_layout.specs.Rings.{taken, outer_edges, vertical_side, horizontal_side, FitDrawing}
use Rattle.grid_plan.specs.declared.record.RingAt.{RingAt}
use Rattle.grid_plan.specs.Keeping.{IsLength, IsLineWidth, most_of_rows}
use Rattle.grid_shapes.specs.Shapes.{most_lines}
use Rattle.grid_shapes.specs.inside.Sites.{RingFits}
use Rattle.grid_shapes.proofs.Cores.{low_of, high_of}
use Rattle.grid_shapes.proofs.Coordinates.{halves}
use Rattle.grid_shapes.proofs.Lists.{all_four}

-- What sides take of their layer is small.
pub taken_low : (place : ℕ) (w s : ℤ) → pos 0 <ℤ w → pos 0 ≤ℤ s → pos 0 ≤ℤ taken place w s
taken_low place (pos a) (pos b) wide apart = omega (arith, ints)
taken_low place (pos a) (negsuc b) wide apart = absurd (omega (arith, ints))
taken_low place (negsuc a) s wide apart = absurd (omega (arith, ints))

pub taken_high : (place : ℕ) (w s : ℤ) → place < 2 ^ 18 → w <ℤ pos (2 ^ 32) → s <ℤ pos (2 ^ 32) → pos 0 <ℤ w → pos 0 ≤ℤ s → taken place w s ≤ℤ pos (2 ^ 52)
taken_high place (pos a) (pos b) few w_small s_small wide apart =
    let sum : a + b ≤ 2 ^ 33 = omega (arith, ints) in
    let times : place * (a + b) ≤ place * 2 ^ 33 = mul-le-mul_left place sum in
    omega (arith, ints)
taken_high place (pos a) (negsuc b) few w_small s_small wide apart = absurd (omega (arith, ints))
taken_high place (negsuc a) s few w_small s_small wide apart = absurd (omega (arith, ints))

-- An edge of a core, and what lies between it and the outer edge of a ring.
lower_edge : (z by used : ℤ) → pos 0 ≤ℤ (z +ℤ pos most_of_rows) → z ≤ℤ pos most_of_rows → IsLength by → pos 0 ≤ℤ used → used ≤ℤ pos (2 ^ 52)
    → IsCoordinate (z -ℤ by -ℤ used) × IsCoordinate (z -ℤ by -ℤ used +ℤ pos (2 ^ 32))
lower_edge z by used low high long_by small large =
    let short = long_by.0 in
    let long = long_by.1 in
    ((omega (arith, ints), omega (arith, ints)), (omega (arith, ints), omega (arith, ints)))

upper_edge : (z by used : ℤ) → pos 0 ≤ℤ (z +ℤ pos most_of_rows) → z ≤ℤ pos most_of_rows → IsLength by → pos 0 ≤ℤ used → used ≤ℤ pos (2 ^ 52)
    → IsCoordinate (z +ℤ by +ℤ used) × IsCoordinate (z +ℤ by +ℤ used -ℤ pos (2 ^ 32))
upper_edge z by used low high long_by small large =
    let short = long_by.0 in
    let long = long_by.1 in
    ((omega (arith, ints), omega (arith, ints)), (omega (arith, ints), omega (arith, ints)))

-- The outer edges, and lines by half of a width further in, lie at coordinates.
record Inward (z : ℤ) (w : ℤ) : Type 0 where
  pub edge : IsCoordinate z
  pub low : IsCoordinate (z +ℤ half w -ℤ half w)
  pub high : IsCoordinate (z +ℤ half w +ℤ half w)

record Outward (z : ℤ) (w : ℤ) : Type 0 where
  pub edge : IsCoordinate z
  pub low : IsCoordinate (z -ℤ half w -ℤ half w)
  pub high : IsCoordinate (z -ℤ half w +ℤ half w)

inward : (z by used w : ℤ) → pos 0 ≤ℤ (z +ℤ pos most_of_rows) → z ≤ℤ pos most_of_rows → IsLength by → pos 0 ≤ℤ used → used ≤ℤ pos (2 ^ 52)
    → IsLineWidth w → Inward (z -ℤ by -ℤ used) w
inward z by used w low high long_by small large wide =
    let edge = lower_edge z by used low high long_by small large in
    let half_wide = halves w wide in
    record { edge = edge.0; low = (omega (arith, ints), omega (arith, ints)); high = (omega (arith, ints), omega (arith, ints)) }

outward : (z by used w : ℤ) → pos 0 ≤ℤ (z +ℤ pos most_of_rows) → z ≤ℤ pos most_of_rows → IsLength by → pos 0 ≤ℤ used → used ≤ℤ pos (2 ^ 52)
    → IsLineWidth w → Outward (z +ℤ by +ℤ used) w
outward z by used w low high long_by small large wide =
    let edge = upper_edge z by used low high long_by small large in
    let half_wide = halves w wide in
    record { edge = edge.0; low = (omega (arith, ints), omega (arith, ints)); high = (omega (arith, ints), omega (arith, ints)) }

pub ring_fits : (ring : RingAt) (core : Rect) → RingFits core ring → 4 * length ring.rule.nets ≤ most_lines → FitDrawing ring.rule core
ring_fits ring core fits few place within =
    let rule = ring.rule in
    let small : place < 2 ^ 18 = omega arith in
    let near = fits.near in
    let v_low = taken_low place rule.width_v rule.spacing_v fits.width_v.0.0 fits.spacing_v.0 in
    let v_high = taken_high place rule.width_v rule.spacing_v small fits.width_v.1 fits.spacing_v.1 fits.width_v.0.0 fits.spacing_v.0 in
    let h_low = taken_low place rule.width_h rule.spacing_h fits.width_h.0.0 fits.spacing_h.0 in
    let h_high = taken_high place rule.width_h rule.spacing_h small fits.width_h.1 fits.spacing_h.1 fits.width_h.0.0 fits.spacing_h.0 in
    let most = most_of_rows in
    let left = inward core.x1 rule.left (taken place rule.width_v rule.spacing_v) rule.width_v (low_of most core.x1 near.x1) (high_of most core.x1 near.x1) fits.left v_low v_high fits.width_v in
    let lower = inward core.y1 rule.bottom (taken place rule.width_h rule.spacing_h) rule.width_h (low_of most core.y1 near.y1) (high_of most core.y1 near.y1) fits.bottom h_low h_high fits.width_h in
    let right = outward core.x2 rule.right (taken place rule.width_v rule.spacing_v) rule.width_v (low_of most core.x2 near.x2) (high_of most core.x2 near.x2) fits.right v_low v_high fits.width_v in
    let upper = outward core.y2 rule.top (taken place rule.width_h rule.spacing_h) rule.width_h (low_of most core.y2 near.y2) (high_of most core.y2 near.y2) fits.top h_low h_high fits.width_h in
    let P = λ (side : Drawn). HasCoordinates (drawn_rect side) in
    let outer = outer_edges rule core place in
    let net = slice_index rule.nets place in
    all_four P (vertical_side rule net outer (outer.x1 +ℤ half rule.width_v)) (horizontal_side rule net outer (outer.y1 +ℤ half rule.width_h))
    (vertical_side rule net outer (outer.x2 -ℤ half rule.width_v)) (horizontal_side rule net outer (outer.y2 -ℤ half rule.width_h))
    (left.low, lower.edge, left.high, upper.edge) (left.edge, lower.low, right.edge, lower.high) (right.low, lower.edge, right.high, upper.edge)
    (left.edge, upper.low, right.edge, upper.high)

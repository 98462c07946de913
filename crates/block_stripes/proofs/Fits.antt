-- Lines over and around the boxes of blocks lie at coordinates.
use Rattle.std.proofs.Common.{◌≡◌, ℕ, ◌+◌, ◌*◌, ◌<◌, ◌≤◌, ◌^◌, ℤ, pos, negsuc, ◌+ℤ◌, ◌-ℤ◌, ◌≤ℤ◌, ◌<ℤ◌, length, arith}
use Rattle.std.specs.Prelude.{slice_index}
use Rattle.std.proofs.Math.Nat.{mul-le-mul_left}
use Rattle.std.proofs.lemmas.Int.{ints}
use Rattle.geom_rect.specs.declared.direction.Axis.{Axis}
use Rattle.geom_rect.specs.declared.direction.Axis.TheVariants.{X, Y}
use Rattle.geom_rect.specs.declared.drawn.Drawn.{Drawn}
use Rattle.geom_rect.specs.declared.rect.Rect.{Rect}
use Rattle.geom_rect.specs.declared.run.Run.{Run}
use Rattle.geom_rect.specs.Drawn.{half, centred, drawn_rect}
use Rattle.geom_rect.specs.Rect.{IsCoordinate, HasCoordinates}
use Rattle.lef_tech.specs.declared.tech.Tech.{Tech}
use Rattle.strap_layout.specs.Lines.{across}
use Rattle.ring_layout.specs.Rings.{taken, outer_edges, vertical_side, horizontal_side, FitDrawing}
use Rattle.grid_cores.specs.Line.{along}
use Rattle.grid_pieces.specs.Limits.{WidthKeeps}
use Rattle.grid_plan.specs.declared.record.Plan.{Plan}
use Rattle.grid_plan.specs.declared.record.RingAt.{RingAt}
use Rattle.grid_plan.specs.Keeping.{IsNear, IsLength, IsLineWidth, LiesNear, RingKeeps}
use Rattle.grid_shapes.specs.Shapes.{most_lines}
use Rattle.block_stripes.proofs.Flat.{all_four}

pub low_of : (most : ℕ) (z : ℤ) → IsNear most z → pos 0 ≤ℤ (z +ℤ pos most)
low_of most (pos n) near = omega (arith, ints)
low_of most (negsuc n) near = omega (arith, ints)

pub high_of : (most : ℕ) (z : ℤ) → IsNear most z → z ≤ℤ pos most
high_of most (pos n) near = omega (arith, ints)
high_of most (negsuc n) near = omega (arith, ints)

coordinate : (z : ℤ) → IsNear (2 ^ 40) z → IsCoordinate z
coordinate z near =
    let low = low_of (2 ^ 40) z near in
    let high = high_of (2 ^ 40) z near in
    (omega (arith, ints), omega (arith, ints))

-- Half of a width.
pub halves : (w : ℤ) → IsLineWidth w → (pos 0 <ℤ half w) × (half w <ℤ pos (2 ^ 31)) × (w ≡ half w +ℤ half w)
halves w h =
    let low = h.0.0 in
    let even = h.0.1 in
    let high = h.1 in
    (omega (arith, ints), omega (arith, ints), even)

pub width_keeps : (w : ℤ) → IsLineWidth w → WidthKeeps w
width_keeps w h =
    let low = h.0.0 in
    let even = h.0.1 in
    let high = h.1 in
    (omega (arith, ints), omega (arith, ints))

-- ## straps

-- Both ends of a run.
pub record RunFits (run : Run) : Type 0 where
  pub from : IsCoordinate run.from
  pub to : IsCoordinate run.to

pub along_fits : (axis : Axis) (rect : Rect) → LiesNear (2 ^ 40) rect → RunFits (along axis rect)
along_fits X rect near = record { from = coordinate rect.x1 near.x1; to = coordinate rect.x2 near.x2 }
along_fits Y rect near = record { from = coordinate rect.y1 near.y1; to = coordinate rect.y2 near.y2 }

across_fits : (axis : Axis) (rect : Rect) → LiesNear (2 ^ 40) rect → RunFits (across axis rect)
across_fits X rect near = record { from = coordinate rect.y1 near.y1; to = coordinate rect.y2 near.y2 }
across_fits Y rect near = record { from = coordinate rect.x1 near.x1; to = coordinate rect.x2 near.x2 }

edges_in : (low high c h : ℤ) → IsCoordinate low → IsCoordinate high → pos 0 <ℤ h → low ≤ℤ (c -ℤ h) → (c +ℤ h) ≤ℤ high → IsCoordinate (c -ℤ h) × IsCoordinate (c +ℤ h)
edges_in low high c h at_low at_high wide from to =
    let a = at_low.0 in
    let b = at_high.1 in
    ((omega (arith, ints), omega (arith, ints)), (omega (arith, ints), omega (arith, ints)))

-- The rectangle of a line that lies in a box with its whole width.
pub line_fits : (axis : Axis) (rect : Rect) (run : Run) (centre width : ℤ) → LiesNear (2 ^ 40) rect → RunFits run → IsLineWidth width
    → (across axis rect).from ≤ℤ (centre -ℤ half width) → (centre +ℤ half width) ≤ℤ (across axis rect).to → HasCoordinates (centred axis centre width run.from run.to)
line_fits X rect run centre width near fit wide low high =
    let ends = across_fits X rect near in
    let edges = edges_in rect.y1 rect.y2 centre (half width) ends.from ends.to (halves width wide).0 low high in
    (fit.from, edges.0, fit.to, edges.1)
line_fits Y rect run centre width near fit wide low high =
    let ends = across_fits Y rect near in
    let edges = edges_in rect.x1 rect.x2 centre (half width) ends.from ends.to (halves width wide).0 low high in
    (edges.0, fit.from, edges.1, fit.to)

-- ## rings

-- What sides take of their layer is small.
taken_low : (place : ℕ) (w s : ℤ) → pos 0 <ℤ w → pos 0 ≤ℤ s → pos 0 ≤ℤ taken place w s
taken_low place (pos a) (pos b) wide apart = omega (arith, ints)
taken_low place (pos a) (negsuc b) wide apart = absurd (omega (arith, ints))
taken_low place (negsuc a) s wide apart = absurd (omega (arith, ints))

taken_high : (place : ℕ) (w s : ℤ) → place < 2 ^ 18 → w <ℤ pos (2 ^ 32) → s <ℤ pos (2 ^ 32) → pos 0 <ℤ w → pos 0 ≤ℤ s → taken place w s ≤ℤ pos (2 ^ 52)
taken_high place (pos a) (pos b) few w_small s_small wide apart =
    let sum : a + b ≤ 2 ^ 33 = omega (arith, ints) in
    let times : place * (a + b) ≤ place * 2 ^ 33 = mul-le-mul_left place sum in
    omega (arith, ints)
taken_high place (pos a) (negsuc b) few w_small s_small wide apart = absurd (omega (arith, ints))
taken_high place (negsuc a) s few w_small s_small wide apart = absurd (omega (arith, ints))

-- The outer edges, and lines by half of a width further in, lie at coordinates.
record Inward (z : ℤ) (w : ℤ) : Type 0 where
  pub edge : IsCoordinate z
  pub low : IsCoordinate (z +ℤ half w -ℤ half w)
  pub high : IsCoordinate (z +ℤ half w +ℤ half w)

record Outward (z : ℤ) (w : ℤ) : Type 0 where
  pub edge : IsCoordinate z
  pub low : IsCoordinate (z -ℤ half w -ℤ half w)
  pub high : IsCoordinate (z -ℤ half w +ℤ half w)

inward : (z by used w : ℤ) → IsNear (2 ^ 40) z → IsLength by → pos 0 ≤ℤ used → used ≤ℤ pos (2 ^ 52) → IsLineWidth w → Inward (z -ℤ by -ℤ used) w
inward z by used w near long_by small large wide =
    let low = low_of (2 ^ 40) z near in
    let high = high_of (2 ^ 40) z near in
    let short = long_by.0 in
    let long = long_by.1 in
    let half_wide = halves w wide in
    let half_low = half_wide.0 in
    let half_high = half_wide.1 in
    record {
      edge = (omega (arith, ints), omega (arith, ints));
      low = (omega (arith, ints), omega (arith, ints));
      high = (omega (arith, ints), omega (arith, ints));
    }

outward : (z by used w : ℤ) → IsNear (2 ^ 40) z → IsLength by → pos 0 ≤ℤ used → used ≤ℤ pos (2 ^ 52) → IsLineWidth w → Outward (z +ℤ by +ℤ used) w
outward z by used w near long_by small large wide =
    let low = low_of (2 ^ 40) z near in
    let high = high_of (2 ^ 40) z near in
    let short = long_by.0 in
    let long = long_by.1 in
    let half_wide = halves w wide in
    let half_low = half_wide.0 in
    let half_high = half_wide.1 in
    record {
      edge = (omega (arith, ints), omega (arith, ints));
      low = (omega (arith, ints), omega (arith, ints));
      high = (omega (arith, ints), omega (arith, ints));
    }

pub ring_fits : (tech : Tech) (plan : Plan) (ring : RingAt) (core : Rect) → RingKeeps tech plan ring → LiesNear (2 ^ 40) core
    → 4 * length ring.rule.nets ≤ most_lines → FitDrawing ring.rule core
ring_fits tech plan ring core keeps near few place within =
    let rule = ring.rule in
    let small : place < 2 ^ 18 = omega arith in
    let v = taken place rule.width_v rule.spacing_v in
    let h = taken place rule.width_h rule.spacing_h in
    let v_low = taken_low place rule.width_v rule.spacing_v keeps.width_v.0.0 keeps.spacing_v.0 in
    let v_high = taken_high place rule.width_v rule.spacing_v small keeps.width_v.1 keeps.spacing_v.1 keeps.width_v.0.0 keeps.spacing_v.0 in
    let h_low = taken_low place rule.width_h rule.spacing_h keeps.width_h.0.0 keeps.spacing_h.0 in
    let h_high = taken_high place rule.width_h rule.spacing_h small keeps.width_h.1 keeps.spacing_h.1 keeps.width_h.0.0 keeps.spacing_h.0 in
    let left = inward core.x1 rule.left v rule.width_v near.x1 keeps.left v_low v_high keeps.width_v in
    let lower = inward core.y1 rule.bottom h rule.width_h near.y1 keeps.bottom h_low h_high keeps.width_h in
    let right = outward core.x2 rule.right v rule.width_v near.x2 keeps.right v_low v_high keeps.width_v in
    let upper = outward core.y2 rule.top h rule.width_h near.y2 keeps.top h_low h_high keeps.width_h in
    let P = λ (side : Drawn). HasCoordinates (drawn_rect side) in
    let outer = outer_edges rule core place in
    let net = slice_index rule.nets place in
    all_four P (vertical_side rule net outer (outer.x1 +ℤ half rule.width_v)) (horizontal_side rule net outer (outer.y1 +ℤ half rule.width_h))
    (vertical_side rule net outer (outer.x2 -ℤ half rule.width_v)) (horizontal_side rule net outer (outer.y2 -ℤ half rule.width_h))
    (left.low, lower.edge, left.high, upper.edge) (left.edge, lower.low, right.edge, lower.high) (right.low, lower.edge, right.high, upper.edge)
    (left.edge, upper.low, right.edge, upper.high)

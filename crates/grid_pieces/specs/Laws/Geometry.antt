-- A grown blockage lies over a cell of a line where it has the cell along the line and overlaps the line across.
use Rattle.std.proofs.Common.{◌≡◌, ◌↔◌, IsTrue, sym, ℤ, pos, negsuc, ◌+ℤ◌, ◌-ℤ◌, ◌<ℤ◌, ◌≤ℤ◌, arith}
use Rattle.std.proofs.lemmas.Int.{ints, clamps}
use Rattle.std.specs.Int.{int_max, int_min}
use Rattle.geom_rect.specs.declared.direction.Axis.{Axis}
use Rattle.geom_rect.specs.declared.direction.Axis.TheVariants.{X, Y}
use Rattle.geom_rect.specs.declared.rect.Rect.{Rect}
use Rattle.std.specs.Int.Signed.{lt_z}
use Rattle.geom_rect.specs.Rect.{ShareArea, IsCoordinate, HasCoordinates}
use Rattle.geom_rect.specs.Run.{HasCell}
use Rattle.geom_rect.specs.Rect.{IsBetween}
use Rattle.geom_rect.specs.Drawn.{half, strip, centred}
use Rattle.grid_pieces.specs.Line.{along, across}

-- there is a unit that lies in both intervals
abbrev pub UnitIn : ℤ → ℤ → ℤ → ℤ → Type 0
UnitIn a1 a2 b1 b2 = (z : ℤ) × ((IsBetween a1 a2 z × IsBetween a1 a2 (z +ℤ pos 1)) × (IsBetween b1 b2 z × IsBetween b1 b2 (z +ℤ pos 1)))

pub ShareArea-decides : (a b : Rect) → ShareArea a b ↔ (UnitIn a.x1 a.x2 b.x1 b.x2 × UnitIn a.y1 a.y2 b.y1 b.y2)
ShareArea-decides a b = (
  λ w. let p = w.2.0 in let q = w.2.1 in
      ((w.0, ((p.0.0, p.1.0), (q.0.0, q.1.0))), (w.1, ((p.0.1, p.1.1), (q.0.1, q.1.1)))),
  λ w. let p = w.0.1 in let q = w.1.1 in
      (w.0.0, w.1.0, (((p.0.0, q.0.0), (p.0.1, q.0.1)), ((p.1.0, q.1.0), (p.1.1, q.1.1)))),
)

-- the unit from t to t + 1 lies between the ends
unit_in : (t from to : ℤ) → UnitIn t (t +ℤ pos 1) from to ↔ ((from ≤ℤ t) × (t <ℤ to))
unit_in t from to = (
  λ w. let a = w.1.0 in let b = w.1.1 in (omega (arith, ints), omega (arith, ints)),
  λ w. let low = w.0 in let high = w.1 in
      (t, (((omega (arith, ints), omega (arith, ints)), (omega (arith, ints), omega (arith, ints))), ((omega (arith, ints), omega (arith, ints)), (omega (arith, ints), omega (arith, ints))))),
)

pub units_in : (a1 a2 b1 b2 : ℤ) → UnitIn a1 a2 b1 b2 ↔ (int_max a1 b1 <ℤ int_min a2 b2)
units_in a1 a2 b1 b2 = (
  λ w. let a = w.1.0 in let b = w.1.1 in omega (arith, ints, clamps),
  λ less. (
    int_max a1 b1,
    (
      ((omega (arith, ints, clamps), omega (arith, ints, clamps)), (omega (arith, ints, clamps), omega (arith, ints, clamps))),
      ((omega (arith, ints, clamps), omega (arith, ints, clamps)), (omega (arith, ints, clamps), omega (arith, ints, clamps))),
    ),
  ),
)

pub lies_over : (axis : Axis) (t low high : ℤ) (r : Rect) → ShareArea (strip axis t (t +ℤ pos 1) low high) r
    ↔ ((int_max low (across axis r).from <ℤ int_min high (across axis r).to) × HasCell (along axis r) t)
lies_over X t low high r =
    let both = ShareArea-decides (strip X t (t +ℤ pos 1) low high) r in
    let cell = unit_in t r.x1 r.x2 in
    let wide = units_in low high r.y1 r.y2 in
    (λ w. let u = both.0 w in (wide.0 u.1, cell.0 u.0), λ w. both.1 (cell.1 w.1, wide.1 w.0))
lies_over Y t low high r =
    let both = ShareArea-decides (strip Y t (t +ℤ pos 1) low high) r in
    let cell = unit_in t r.y1 r.y2 in
    let wide = units_in low high r.x1 r.x2 in
    (λ w. let u = both.0 w in (wide.0 u.0, cell.0 u.1), λ w. both.1 (wide.1 w.0, cell.1 w.1))

-- half of a width lies between 0 and the width
pub half_within : (width : ℤ) → pos 0 ≤ℤ width → (pos 0 ≤ℤ half width) × (half width ≤ℤ width)
half_within (pos a) h = (omega (arith, ints), omega (arith, ints))
half_within (negsuc a) h = absurd (omega (arith, ints))

pub edges : (axis : Axis) (centre width from to : ℤ) → HasCoordinates (centred axis centre width from to)
    → IsCoordinate (centre -ℤ half width) × IsCoordinate (centre +ℤ half width)
edges X centre width from to h = (h.1, h.3)
edges Y centre width from to h = (h.0, h.2)

pub less_decides : (a b p q : ℤ) → a ≡ p → b ≡ q → IsTrue (lt_z a b) ↔ (p <ℤ q)
less_decides a b p q is_p is_q = (λ t. omega (arith, ints), λ l. sym (omega (arith, ints)))

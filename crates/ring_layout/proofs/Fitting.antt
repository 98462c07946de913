-- The numbers of a ring whose sides lie at coordinates.
use Rattle.std.proofs.Common.{◌≡◌, ℕ, ℤ, pos, ◌+ℤ◌, ◌-ℤ◌, ◌*ℤ◌, ◌<◌, ◌^◌, SFits, w64, to_z, of_z, subst, sym, ap, ◌∙◌, arith}
use Rattle.std.specs.Int.{w128}
use Rattle.std.proofs.lemmas.Int.{ints, to_z-of_z, to_z_pos}
use Rattle.geom_rect.specs.declared.rect.Rect.{Rect}
use Rattle.geom_rect.specs.Drawn.{half, drawn_rect, IsWidth}
use Rattle.geom_rect.specs.Rect.{HasCoordinates}
use Rattle.ring_layout.specs.declared.rule.RingRule.{RingRule}
use Rattle.ring_layout.specs.Rings.{vertical_side, horizontal_side, sides_within, LieAtCoordinates}

-- the centres of its sides
pub record CentresFit (rule : RingRule) (outer : Rect) : Type 0 where
  pub left : SFits w64 (outer.x1 +ℤ half rule.width_v)
  pub bottom : SFits w64 (outer.y1 +ℤ half rule.width_h)
  pub right : SFits w64 (outer.x2 -ℤ half rule.width_v)
  pub top : SFits w64 (outer.y2 -ℤ half rule.width_h)

left_lies : (rule : RingRule) (net : ℕ) (outer : Rect) → LieAtCoordinates (sides_within rule net outer)
    → HasCoordinates (drawn_rect (vertical_side rule net outer (outer.x1 +ℤ half rule.width_v)))
left_lies rule net outer lie = lie 0 (vertical_side rule net outer (pos 0)) (omega arith)

bottom_lies : (rule : RingRule) (net : ℕ) (outer : Rect) → LieAtCoordinates (sides_within rule net outer)
    → HasCoordinates (drawn_rect (horizontal_side rule net outer (outer.y1 +ℤ half rule.width_h)))
bottom_lies rule net outer lie = lie 1 (vertical_side rule net outer (pos 0)) (omega arith)

right_lies : (rule : RingRule) (net : ℕ) (outer : Rect) → LieAtCoordinates (sides_within rule net outer)
    → HasCoordinates (drawn_rect (vertical_side rule net outer (outer.x2 -ℤ half rule.width_v)))
right_lies rule net outer lie = lie 2 (vertical_side rule net outer (pos 0)) (omega arith)

top_lies : (rule : RingRule) (net : ℕ) (outer : Rect) → LieAtCoordinates (sides_within rule net outer)
    → HasCoordinates (drawn_rect (horizontal_side rule net outer (outer.y2 -ℤ half rule.width_h)))
top_lies rule net outer lie = lie 3 (vertical_side rule net outer (pos 0)) (omega arith)

pub centres_fit : (rule : RingRule) (net : ℕ) (outer : Rect) → IsWidth rule.width_v → IsWidth rule.width_h
    → LieAtCoordinates (sides_within rule net outer) → CentresFit rule outer
centres_fit rule net outer width_v width_h lie =
    let some_v = width_v.0 in
    let even_v = width_v.1 in
    let some_h = width_h.0 in
    let even_h = width_h.1 in
    let left = left_lies rule net outer lie in
    let bottom = bottom_lies rule net outer lie in
    let right = right_lies rule net outer lie in
    let top = top_lies rule net outer lie in
    let left_low = left.0 in
    let left_high = left.2 in
    let bottom_low = bottom.1 in
    let bottom_high = bottom.3 in
    let right_low = right.0 in
    let right_high = right.2 in
    let top_low = top.1 in
    let top_high = top.3 in
    record {
      left = omega (arith, ints);
      bottom = omega (arith, ints);
      right = omega (arith, ints);
      top = omega (arith, ints);
    }

-- the outer edges are ends of sides
pub edges_lie : (rule : RingRule) (net : ℕ) (outer : Rect) → LieAtCoordinates (sides_within rule net outer) → HasCoordinates outer
edges_lie rule net outer lie =
    let left = left_lies rule net outer lie in
    let bottom = bottom_lies rule net outer lie in (bottom.0, left.1, bottom.2, left.3)

-- the code's steps of a width and a spacing are those
pub steps_same : (place : ℕ) (w s width spacing : ℤ) → place < 2 ^ 64 → SFits w64 width → SFits w64 spacing
    → w ≡ to_z w64 (of_z w64 width) → s ≡ to_z w64 (of_z w64 spacing)
    → to_z w128 place *ℤ to_z w128 (of_z w128 (to_z w128 (of_z w128 w) +ℤ to_z w128 (of_z w128 s))) ≡ pos place *ℤ (width +ℤ spacing)
steps_same place w s width spacing few width_fits spacing_fits w_given s_given =
    let w_is : w ≡ width = w_given ∙ to_z-of_z w64 width width_fits in
    let s_is : s ≡ spacing = s_given ∙ to_z-of_z w64 spacing spacing_fits in
    let w_fits : SFits w128 w = omega (arith, ints) in
    let s_fits : SFits w128 s = omega (arith, ints) in
    let w_same : to_z w128 (of_z w128 w) ≡ width = to_z-of_z w128 w w_fits ∙ w_is in
    let s_same : to_z w128 (of_z w128 s) ≡ spacing = to_z-of_z w128 s s_fits ∙ s_is in
    let sum_is : (to_z w128 (of_z w128 w) +ℤ to_z w128 (of_z w128 s)) ≡ width +ℤ spacing =
    ap (λ (z : ℤ). z +ℤ to_z w128 (of_z w128 s)) w_same ∙ ap (λ (z : ℤ). width +ℤ z) s_same in
    let sum_fits : SFits w128 (width +ℤ spacing) = omega (arith, ints) in
    let step_is : to_z w128 (of_z w128 (to_z w128 (of_z w128 w) +ℤ to_z w128 (of_z w128 s))) ≡ width +ℤ spacing =
    to_z-of_z w128 (to_z w128 (of_z w128 w) +ℤ to_z w128 (of_z w128 s)) (subst (SFits w128) (sym sum_is) sum_fits) ∙ sum_is in
    ap (λ (z : ℤ). z *ℤ to_z w128 (of_z w128 (to_z w128 (of_z w128 w) +ℤ to_z w128 (of_z w128 s)))) (to_z_pos w128 place (omega arith))
    ∙ ap (λ (z : ℤ). pos place *ℤ z) step_is

-- and so is their sum with the side's own width
pub sum_same : (steps given w width : ℤ) → given ≡ steps → SFits w128 steps → w ≡ to_z w64 (of_z w64 width) → SFits w64 width
    → (to_z w128 (of_z w128 given) +ℤ to_z w128 (of_z w128 w)) ≡ steps +ℤ width
sum_same steps given w width same fits w_given width_fits =
    let w_is : w ≡ width = w_given ∙ to_z-of_z w64 width width_fits in
    let w_fits : SFits w128 w = omega (arith, ints) in
    let given_fits : SFits w128 given = subst (SFits w128) (sym same) fits in
    ap (λ (z : ℤ). z +ℤ to_z w128 (of_z w128 w)) (to_z-of_z w128 given given_fits ∙ same)
    ∙ ap (λ (z : ℤ). steps +ℤ z) (to_z-of_z w128 w w_fits ∙ w_is)

-- Rules of at most two nets whose sides lie at coordinates.
use Rattle.std.proofs.Common.{ℕ, zero, suc, ◌≤◌, ◌+ℤ◌, ◌-ℤ◌, length, arith}
use Rattle.geom_rect.specs.declared.rect.Rect.{Rect}
use Rattle.geom_rect.specs.Drawn.{half, drawn_rect}
use Rattle.geom_rect.specs.Rect.{HasCoordinates}
use Rattle.ring_layout.specs.declared.rule.RingRule.{RingRule}
use Rattle.ring_layout.specs.Rings.{outer_edges, vertical_side, horizontal_side, sides_of, LieAtCoordinates, FitDrawing}

-- the four sides of the ring of the net at a place do
pub record FourLie (rule : RingRule) (core : Rect) (place : ℕ) : Type 0 where
  pub left : HasCoordinates (drawn_rect (vertical_side rule 0 (outer_edges rule core place) ((outer_edges rule core place).x1 +ℤ half rule.width_v)))
  pub bottom : HasCoordinates (drawn_rect (horizontal_side rule 0 (outer_edges rule core place) ((outer_edges rule core place).y1 +ℤ half rule.width_h)))
  pub right : HasCoordinates (drawn_rect (vertical_side rule 0 (outer_edges rule core place) ((outer_edges rule core place).x2 -ℤ half rule.width_v)))
  pub top : HasCoordinates (drawn_rect (horizontal_side rule 0 (outer_edges rule core place) ((outer_edges rule core place).y2 -ℤ half rule.width_h)))

sides_lie : (rule : RingRule) (core : Rect) (place : ℕ) → FourLie rule core place → LieAtCoordinates (sides_of rule core place)
sides_lie rule core place four zero d within = four.left
sides_lie rule core place four (suc zero) d within = four.bottom
sides_lie rule core place four (suc (suc zero)) d within = four.right
sides_lie rule core place four (suc (suc (suc zero))) d within = four.top
sides_lie rule core place four (suc (suc (suc (suc k)))) d within = absurd (omega arith)

pub two_fit : (rule : RingRule) (core : Rect) → length rule.nets ≤ 2 → FourLie rule core 0 → FourLie rule core 1 → FitDrawing rule core
two_fit rule core few none one zero within = sides_lie rule core 0 none
two_fit rule core few none one (suc zero) within = sides_lie rule core 1 one
two_fit rule core few none one (suc (suc k)) within = absurd (omega arith)

-- The choice of a rule for a crossing (LEF/DEF 5.8 Language Reference, VIARULE GENERATE, WIDTH).
use Rattle.std.specs.Prelude.{◌≡◌, ℕ, ◌*◌, ◌<◌, ◌≤◌, map, length, slice_index_or, slice_get, Some}
use Rattle.geom_rect.specs.declared.direction.Axis.{Axis}
use Rattle.geom_rect.specs.declared.direction.Axis.TheVariants.{X}
use Rattle.geom_rect.specs.declared.rect.Rect.{Rect}
use Rattle.lef_tech.specs.Limits.{Keeps}
use Rattle.lef_tech.specs.declared.layer.RoutingLayer.{RoutingLayer}
use Rattle.lef_tech.specs.declared.rule.ViaRule.{ViaRule}
use Rattle.lef_tech.specs.declared.tech.Tech.{Tech}
use Rattle.via_arrays.specs.declared.lengths.TheConstants.{PICOMETRES}
use Rattle.via_arrays.specs.Extents.{width_across}

-- Along which axis the wires of a routing layer go.
abbrev pub direction : Tech → ℕ → Axis
direction tech layer = slice_index_or (map (λ (l : RoutingLayer). l.direction) tech.routing) layer X

-- The rule of this number, counted from 0 in the order of the file.
abbrev pub IsRule : Tech → ℕ → ViaRule → Type 0
IsRule tech place rule = slice_get tech.rules place ≡ Some rule

-- A width in units lies from the least length of a range up to the greatest, ends included; nothing is rounded.
abbrev pub IsWithin : ℕ → ℕ → ℕ × ℕ → Type 0
IsWithin units width range =
    (range.0 * units ≤ width * PICOMETRES) × (width * PICOMETRES ≤ range.1 * units)

-- The rule joins these layers, and its ranges, where they are stated, hold the widths of both at the crossing.
pub record Suits (tech : Tech) (lower upper : ℕ) (crossing : Rect) (units : ℕ) (rule : ViaRule) : Type 0 where
  pub lower_layer : rule.lower ≡ lower
  pub upper_layer : rule.upper ≡ upper
  pub lower_width : Keeps (IsWithin units (width_across (direction tech lower) crossing)) rule.lower_widths
  pub upper_width : Keeps (IsWithin units (width_across (direction tech upper) crossing)) rule.upper_widths

-- No rule of a lower number than this suits.
abbrev pub NoneBefore : Tech → ℕ → ℕ → Rect → ℕ → ℕ → Type 0
NoneBefore tech lower upper crossing units place = (k : ℕ) (rule : ViaRule) → k < place →
    IsRule tech k rule → ¬ Suits tech lower upper crossing units rule

-- No rule of the technology suits.
abbrev pub NoneSuits : Tech → ℕ → ℕ → Rect → ℕ → Type 0
NoneSuits tech lower upper crossing units = NoneBefore tech lower upper crossing units (length tech.rules)

-- The rule of this number suits, and none before it.
pub record IsFirstRule (tech : Tech) (lower upper : ℕ) (crossing : Rect) (units place : ℕ) : Type 0 where
  pub rule : ViaRule
  pub is : IsRule tech place rule
  pub suits : Suits tech lower upper crossing units rule
  pub none : NoneBefore tech lower upper crossing units place

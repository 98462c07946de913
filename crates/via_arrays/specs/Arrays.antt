-- Arrays of cuts at a crossing (LEF/DEF 5.8 Language Reference, VIARULE GENERATE).
use Rattle.std.specs.Prelude.{◌≡◌, ℕ, ◌<◌, ◌⊎◌, min, max, pos}
use Rattle.geom_rect.specs.declared.direction.Axis.{Axis}
use Rattle.geom_rect.specs.declared.direction.Axis.TheVariants.{X, Y}
use Rattle.geom_rect.specs.declared.rect.Rect.{Rect}
use Rattle.lef_tech.specs.declared.rule.ViaRule.{ViaRule}
use Rattle.lef_tech.specs.declared.tech.Tech.{Tech}
use Rattle.via_arrays.specs.declared.error.ArrayError.{ArrayError}
use Rattle.via_arrays.specs.declared.error.ArrayError.TheVariants.{OffGrid, NoCutFits}
use Rattle.via_arrays.specs.declared.parts.CutArray.{CutArray}
use Rattle.via_arrays.specs.Lengths.{in_units, IsRuleOnGrid}
use Rattle.via_arrays.specs.Extents.{extent}
use Rattle.via_arrays.specs.Choice.{direction, IsRule}
use Rattle.via_arrays.specs.Cuts.{IsMost}

-- The enclosure along an axis of a layer of this direction: the larger of its two numbers along the layer's direction,
-- the smaller across it.
abbrev pub enclosure_along : Axis → Axis → ℕ × ℕ → ℕ
enclosure_along X X enclosure = max enclosure.0 enclosure.1
enclosure_along X Y enclosure = min enclosure.0 enclosure.1
enclosure_along Y X enclosure = min enclosure.0 enclosure.1
enclosure_along Y Y enclosure = max enclosure.0 enclosure.1

-- The enclosure along an axis of the rule's lower layer, in units.
abbrev pub lower_along : Tech → ViaRule → ℕ → Axis → ℕ
lower_along tech rule units axis =
    in_units units (enclosure_along axis (direction tech rule.lower) rule.lower_enclosure)

-- The enclosure along an axis of the rule's upper layer, in units.
abbrev pub upper_along : Tech → ViaRule → ℕ → Axis → ℕ
upper_along tech rule units axis =
    in_units units (enclosure_along axis (direction tech rule.upper) rule.upper_enclosure)

-- The extent of a cut of the rule along an axis, in units.
abbrev pub cut_along : ViaRule → ℕ → Axis → ℕ
cut_along rule units X = in_units units rule.cut_x
cut_along rule units Y = in_units units rule.cut_y

-- From the centre of a cut to that of the next one along an axis, in units.
abbrev pub pitch_along : ViaRule → ℕ → Axis → ℕ
pitch_along rule units X = in_units units rule.pitch_x
pitch_along rule units Y = in_units units rule.pitch_y

-- n is the greatest number of the rule's cuts that fit into the crossing along an axis, up to a limit, with the greater
-- of the two layers' enclosures.
abbrev pub IsCount : Tech → ViaRule → ℕ → Axis → Rect → ℕ → ℕ → Type 0
IsCount tech rule units axis crossing limit n =
    IsMost limit (extent axis crossing) (cut_along rule units axis) (pitch_along rule units axis)
    (max (lower_along tech rule units axis) (upper_along tech rule units axis)) n

-- The array of a rule with its number, columns and rows.
abbrev pub array_of : Tech → ViaRule → ℕ → ℕ → ℕ → ℕ → CutArray
array_of tech rule units place columns rows = record {
  rule = place;
  columns = columns;
  rows = rows;
  cut_x = pos (cut_along rule units X);
  cut_y = pos (cut_along rule units Y);
  pitch_x = pos (pitch_along rule units X);
  pitch_y = pos (pitch_along rule units Y);
  lower_x = pos (lower_along tech rule units X);
  lower_y = pos (lower_along tech rule units Y);
  upper_x = pos (upper_along tech rule units X);
  upper_y = pos (upper_along tech rule units Y);
}

-- The array of the rule of this number at a crossing: its lengths are whole numbers of units, as many columns and as
-- many rows as fit stand in it, and it has a cut.
pub record IsArray (tech : Tech) (place : ℕ) (crossing : Rect) (units max_columns max_rows : ℕ) (array : CutArray)
    : Type 0 where
  pub rule : ViaRule
  pub is_rule : IsRule tech place rule
  pub on_grid : IsRuleOnGrid units rule
  pub columns : IsCount tech rule units X crossing max_columns array.columns
  pub rows : IsCount tech rule units Y crossing max_rows array.rows
  pub some_columns : 0 < array.columns
  pub some_rows : 0 < array.rows
  pub is : array ≡ array_of tech rule units place array.columns array.rows

-- Along an axis not a single cut of the rule fits.
abbrev pub HasNoCut : Tech → ViaRule → ℕ → Axis → Rect → ℕ → Type 0
HasNoCut tech rule units axis crossing limit = IsCount tech rule units axis crossing limit 0

-- Why a rule gives no array: a length of it is no whole number of units, or all are, and no column or no row fits.
abbrev pub IsRefused : Tech → ViaRule → Rect → ℕ → ℕ → ℕ → ArrayError → Type 0
IsRefused tech rule crossing units max_columns max_rows OffGrid = ¬ IsRuleOnGrid units rule
IsRefused tech rule crossing units max_columns max_rows NoCutFits = IsRuleOnGrid units rule
    × (HasNoCut tech rule units X crossing max_columns ⊎ HasNoCut tech rule units Y crossing max_rows)

-- Why the rule of this number gives none.
abbrev pub IsArrayRefused : Tech → ℕ → Rect → ℕ → ℕ → ℕ → ArrayError → Type 0
IsArrayRefused tech place crossing units max_columns max_rows error = (rule : ViaRule) × IsRule tech place rule
    × IsRefused tech rule crossing units max_columns max_rows error

-- Lengths of a technology, in picometres, and of a drawing, in units (LEF/DEF 5.8 Language Reference, UNITS DISTANCE
-- MICRONS).
use Rattle.std.specs.Prelude.{◌≡◌, ℕ, ◌*◌, ◌/◌, ◌%◌, ◌≤◌}
use Rattle.lef_tech.specs.Limits.{Keeps}
use Rattle.lef_tech.specs.declared.rule.ViaRule.{ViaRule}
use Rattle.via_arrays.specs.declared.lengths.TheConstants.{MOST_UNITS, PICOMETRES}

-- A drawing may have this number of units in a micrometre.
abbrev pub IsUnits : ℕ → Type 0
IsUnits units = (1 ≤ units) × (units ≤ MOST_UNITS)

-- A length in units, rounded down.
abbrev pub in_units : ℕ → ℕ → ℕ
in_units units length = length * units / PICOMETRES

-- The length is a whole number of units.
abbrev pub IsOnGrid : ℕ → ℕ → Type 0
IsOnGrid units length = length * units % PICOMETRES ≡ 0

-- Both lengths are whole numbers of units.
abbrev pub AreOnGrid : ℕ → ℕ × ℕ → Type 0
AreOnGrid units pair = IsOnGrid units pair.0 × IsOnGrid units pair.1

-- Each length of the rule is a whole number of units, the ends of its ranges of widths too.
pub record IsRuleOnGrid (units : ℕ) (rule : ViaRule) : Type 0 where
  pub lower_enclosure : AreOnGrid units rule.lower_enclosure
  pub upper_enclosure : AreOnGrid units rule.upper_enclosure
  pub lower_widths : Keeps (AreOnGrid units) rule.lower_widths
  pub upper_widths : Keeps (AreOnGrid units) rule.upper_widths
  pub cut_x : IsOnGrid units rule.cut_x
  pub cut_y : IsOnGrid units rule.cut_y
  pub pitch_x : IsOnGrid units rule.pitch_x
  pub pitch_y : IsOnGrid units rule.pitch_y

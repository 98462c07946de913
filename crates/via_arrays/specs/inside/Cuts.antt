-- The lengths of a rule along an axis, as the code has them.
use Rattle.std.specs.Prelude.{ℕ, ◌<◌, ◌^◌, pos}
use Rattle.geom_rect.specs.declared.direction.Axis.{Axis}
use Rattle.lef_tech.specs.declared.rule.ViaRule.{ViaRule}
use Rattle.lef_tech.specs.declared.tech.Tech.{Tech}
use Rattle.via_arrays.specs.declared.cuts.Along.{Along}
use Rattle.via_arrays.specs.declared.parts.CutArray.{CutArray}
use Rattle.via_arrays.specs.Arrays.{cut_along, pitch_along, lower_along, upper_along}

-- The four lengths of a rule along an axis.
abbrev pub lengths_along : Tech → ViaRule → ℕ → Axis → Along
lengths_along tech rule units axis = record {
  cut = cut_along rule units axis;
  pitch = pitch_along rule units axis;
  lower = lower_along tech rule units axis;
  upper = upper_along tech rule units axis;
}

-- Each of them is below 2^40.
pub record AreSmall (along : Along) : Type 0 where
  pub cut : along.cut < 2 ^ 40
  pub pitch : along.pitch < 2 ^ 40
  pub lower : along.lower < 2 ^ 40
  pub upper : along.upper < 2 ^ 40

-- The array of these lengths in x and in y.
abbrev pub array_along : ℕ → ℕ → ℕ → Along → Along → CutArray
array_along rule columns rows in_x in_y = record {
  rule = rule;
  columns = columns;
  rows = rows;
  cut_x = pos in_x.cut;
  cut_y = pos in_y.cut;
  pitch_x = pos in_x.pitch;
  pitch_y = pos in_y.pitch;
  lower_x = pos in_x.lower;
  lower_y = pos in_y.lower;
  upper_x = pos in_x.upper;
  upper_y = pos in_y.upper;
}

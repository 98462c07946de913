-- What is asked of the lengths of one rule.
use Rattle.lef_tech.specs.Limits.{IsLength, AreLengths, Keeps}
use Rattle.lef_tech.specs.declared.rule.ViaRule.{ViaRule}

-- The lengths of a rule keep their limit.
pub record RuleLengths (rule : ViaRule) : Type 0 where
  pub lower_enclosure : AreLengths rule.lower_enclosure
  pub upper_enclosure : AreLengths rule.upper_enclosure
  pub lower_widths : Keeps AreLengths rule.lower_widths
  pub upper_widths : Keeps AreLengths rule.upper_widths
  pub cut_x : IsLength rule.cut_x
  pub cut_y : IsLength rule.cut_y
  pub pitch_x : IsLength rule.pitch_x
  pub pitch_y : IsLength rule.pitch_y

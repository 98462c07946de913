use Rattle.std.proofs.Common.{◌≡◌, All, take, length, Some}
use Rattle.clap.specs.Words.{first_value, found_of}
use Rattle.command_words.specs.Setting.{IsValue}
use Rattle.command_words.specs.inside.Parsed.{names, values_by}
use Rattle.command_words.specs.inside.Split.{texts}
use Rattle.command_words.proofs.settings.values_of.Given as goal

abbrev pub invariant-loop-option : goal.invariant-loop-option
invariant-loop-option l = record {
  values : values_by (first_value (found_of l.matches)) (names (take l.option-index l.options)) ≡ Some (texts l.values.items);
  are_values : All IsValue (texts l.values.items);
  count : length l.values.items ≡ l.option-index;
}

-- The command whose parse reads the words: each option has a long name and one value, and is required.
use Rattle.std.specs.Prelude.{List, Bool, [], ◌∷◌, ◌==◌, ◌&&◌, not, map, Option, Some, true, false}
use Rattle.std.specs.List.{list_all, list_any}
use Rattle.std.specs.Str.{bytes_eq}
use Rattle.clap.specs.Walk.{Rule, Text}
use Rattle.clap.specs.Simple.{App, new_rule, new_shape}
use Rattle.clap.specs.declared.builder.action.ArgAction.TheVariants.{Set}
use Rattle.command_words.specs.Setting.{with_value}
use Rattle.command_words.specs.declared.table.OptionText.{OptionText}

-- The names of the options, and the same with their dashes.
abbrev pub names : List OptionText → List Text
names options = map (λ option. option.name.now) options

abbrev pub dashed : Text → Text
dashed n = 45 ∷ 45 ∷ n

abbrev pub dashed_all : List Text → List Text
dashed_all ns = map dashed ns

-- Names are not empty, have no `=` (byte 61), and differ.
abbrev pub has_no_equals : Text → Bool
has_no_equals [] = true
has_no_equals (x ∷ xs) = not (x == 61) && has_no_equals xs

abbrev pub is_name : Text → Bool
is_name [] = false
is_name (x ∷ xs) = has_no_equals (x ∷ xs)

abbrev pub known : List Text → Text → Bool
known ns n = list_any (λ x. bytes_eq x n) ns

abbrev pub distinct : List Text → Bool
distinct [] = true
distinct (n ∷ ns) = not (known ns n) && distinct ns

abbrev pub are_names : List Text → Bool
are_names ns = list_all is_name ns && distinct ns

-- The values that the options of these names have, in their order, or none where one has none.
abbrev pub values_by : (Text → Option Text) → List Text → Option (List Text)
values_by value [] = Some []
values_by value (n ∷ ns) = with_value (value n) (values_by value ns)

abbrev pub asked : Text → Rule
asked n = record (new_rule n) { long = Some n; value_names = 1; action = Some Set; required = true }

abbrev pub app : Text → List Text → App
app name ns = record {
  top = record (new_shape name) { rules = map asked ns; no_binary_name = true; disable_help_flag = true };
  subs = [];
}

-- The options that the words of a command give, after its first word: each option that has a value is followed by it.
use Rattle.std.specs.Prelude.{ℕ, ◌+◌, Bool, true, false, ◌||◌, List, [], ◌∷◌, Option, None, Some, if◌then◌else◌}
use Rattle.pdn_script.specs.Sort.{takes_value}
use Rattle.reading.specs.Word.{Token}
use Rattle.script_options.specs.declared.command.Command.TheVariants.{DefinePdnGrid}
use Rattle.script_options.specs.declared.option.ScriptOption.{ScriptOption}
use Rattle.script_options.specs.declared.table.Need.{Need}
use Rattle.script_options.specs.declared.table.Need.TheVariants.{OfMacroGrids}
use Rattle.script_options.specs.Option.{option_named, same_option}
use Rattle.script_options.specs.Table.{table, need_in}

-- The option that the word names.
abbrev pub option_of : Token → ScriptOption
option_of word = option_named word.text

-- The option, where it has a value.
abbrev pub if_valued : ScriptOption → Option ScriptOption
if_valued option = if takes_value option then Some option else None

-- What waits for its value after one more word: nothing after a value, and an option that has one after its name.
abbrev pub waits_after : Option ScriptOption → Token → Option ScriptOption
waits_after (Some option) word = None
waits_after None word = if_valued (option_of word)

-- What waits for its value after these words, where this waits before them.
abbrev pub waiting_from : Option ScriptOption → List Token → Option ScriptOption
waiting_from waits [] = waits
waiting_from waits (word ∷ words) = waiting_from (waits_after waits word) words

-- The option that waits for its value after these words.
abbrev pub waiting : List Token → Option ScriptOption
waiting words = waiting_from None words

-- It is this option that waits.
abbrev pub is_waiting : ScriptOption → Option ScriptOption → Bool
is_waiting option None = false
is_waiting option (Some other) = same_option other option

-- The word stands in the place of an option, and is this one.
abbrev pub is_named : ScriptOption → Option ScriptOption → Token → Bool
is_named option (Some other) word = false
is_named option None word = same_option (option_of word) option

abbrev pub value_from : ScriptOption → Option ScriptOption → List Token → Option (List ℕ)
value_from option waits [] = None
value_from option waits (word ∷ words) =
    if is_waiting option waits then Some word.text else value_from option (waits_after waits word) words

-- The value of the option, if the words give one.
abbrev pub value : ScriptOption → List Token → Option (List ℕ)
value option words = value_from option None words

abbrev pub stands_from : ScriptOption → Option ScriptOption → List Token → Bool
stands_from option waits [] = false
stands_from option waits (word ∷ words) = is_named option waits word || stands_from option (waits_after waits word) words

-- The option is given, with its value if it has one.
abbrev pub stands : ScriptOption → List Token → Bool
stands option words = stands_from option None words

abbrev pub value_at_from : ScriptOption → Option ScriptOption → ℕ → List Token → Option ℕ
value_at_from option waits before [] = None
value_at_from option waits before (word ∷ words) =
    if is_waiting option waits then Some before else value_at_from option (waits_after waits word) (before + 1) words

-- How many words stand before the value of the option.
abbrev pub value_at : ScriptOption → List Token → Option ℕ
value_at option words = value_at_from option None 0 words

abbrev pub macro_need : Option Need → Bool
macro_need (Some OfMacroGrids) = true
macro_need _ = false

-- The word stands in the place of an option, and is one of grids with `-macro` alone.
abbrev pub is_of_macro_grids : Option ScriptOption → Token → Bool
is_of_macro_grids (Some other) word = false
is_of_macro_grids None word = macro_need (need_in (table DefinePdnGrid) (option_of word))

abbrev pub macro_at_from : Option ScriptOption → ℕ → List Token → Option ℕ
macro_at_from waits before [] = None
macro_at_from waits before (word ∷ words) =
    if is_of_macro_grids waits word then Some before else macro_at_from (waits_after waits word) (before + 1) words

-- How many words stand before the first option of macro grids.
abbrev pub macro_at : List Token → Option ℕ
macro_at words = macro_at_from None 0 words

-- What the words of a command say.
use Rattle.std.specs.Prelude.{◌≡◌, ◌^◌, ℕ, min, List, [], ◌∷◌, ◌++◌, map, Option, None, Some, if◌then◌else◌}
use Rattle.std.specs.List.{AllByRecursion}
use Rattle.pdn_script.specs.declared.known.Known.{Known}
use Rattle.pdn_script.specs.declared.value.Value.{Value}
use Rattle.pdn_script.specs.declared.value.Value.TheVariants as values
use Rattle.pdn_script.specs.Fault.{front_of, name_kind, ShowsNone}
use Rattle.pdn_script.specs.Given.{option_of, if_valued, waits_after, waiting, is_waiting, value}
use Rattle.pdn_script.specs.Known.{or_empty, known_of}
use Rattle.reading.specs.declared.word.Heard.{Heard}
use Rattle.reading.specs.Word.{Token, heard_token, last_of}
use Rattle.script_options.specs.declared.command.Command.{Command}
use Rattle.script_options.specs.declared.command.Command.TheVariants.{AddPdnStripe, Unknown}
use Rattle.script_options.specs.declared.number.Quantity.{Quantity}
use Rattle.script_options.specs.declared.option.ScriptOption.{ScriptOption}
use Rattle.script_options.specs.declared.option.ScriptOption.TheVariants.{Width}
use Rattle.script_options.specs.Command.{command_named}
use Rattle.script_options.specs.ListWords.{words_of}
use Rattle.script_options.specs.Number.{HasNumber}
use Rattle.script_options.specs.Table.{form_of}
use Rattle.script_options.specs.Value.{Suits, SaysNumber}

-- The command that a first word names.
abbrev pub command_of : Value → Command
command_of (values.Command command) = command
command_of _ = Unknown

-- The option for which the next word is the value.
abbrev pub waits_of : Value → Option ScriptOption
waits_of (values.Waits option) = Some option
waits_of _ = None

-- The number, and 0 of another word.
abbrev pub number_of : Value → ℕ
number_of (values.Number number) = number
number_of _ = 0

-- The value of an option is one that suits it, its number is that of the text, and its name is not refused.
pub record SaysValue (known : Known) (command : Command) (before : List Token) (option : ScriptOption) (text : List ℕ) (value : Value) : Type 0 where
  pub ends : waits_of value ≡ None
  pub suits : Suits (form_of option) text
  pub number : SaysNumber (form_of option) text (number_of value)
  pub named : name_kind known command before option text ≡ None

-- What a word after these says: in the place of an option, which one waits for its value; else the value that is waited for.
abbrev pub SaysRole : Known → Command → List Token → Option ScriptOption → Token → Value → Type 0
SaysRole known command before None word value = waits_of value ≡ if_valued (option_of word)
SaysRole known command before (Some option) word value = SaysValue known command before option word.text value

abbrev pub SaysAfter : Known → Token → List Token → Option Token → Value → Type 0
SaysAfter known first words None value = command_of value ≡ command_named first.text
SaysAfter known first words (Some last) value =
    SaysRole known (command_named first.text) (front_of words) (waiting (front_of words)) last value

abbrev pub SaysLast : Known → List Token → Value → Type 0
SaysLast known [] value = Unit {0}
SaysLast known (first ∷ words) value = SaysAfter known first words (last_of words) value

-- What the last of a command's words so far says. The words show no fault.
abbrev pub says : List (List Token) → List Token → Value → Type 0
says units part value = ShowsNone (known_of units) part × SaysLast (known_of units) part value

-- Each of the words after these says its value.
abbrev pub AreSaid : Known → Command → List Token → List (Heard Value) → Type 0
AreSaid known command before [] = Unit {0}
AreSaid known command before (word ∷ words) =
    SaysRole known command before (waiting before) (heard_token word) word.value
    × AreSaid known command (before ++ heard_token word ∷ []) words

-- The option for which the last of the words waits.
abbrev pub last_waits : List (Heard Value) → Option ScriptOption
last_waits [] = None
last_waits (word ∷ []) = waits_of word.value
last_waits (word ∷ next ∷ words) = last_waits (next ∷ words)

abbrev pub number_from : ScriptOption → Option ScriptOption → List (Heard Value) → Option ℕ
number_from option waits [] = None
number_from option waits (word ∷ words) =
    if is_waiting option waits then Some (number_of word.value) else number_from option (waits_after waits (heard_token word)) words

-- The number that the value of the option says, if the words give one.
abbrev pub number_in : ScriptOption → List (Heard Value) → Option ℕ
number_in option words = number_from option None words

-- A count is at most 10^6.
abbrev pub count_in : Option ℕ → Option ℕ
count_in None = None
count_in (Some number) = Some (min number (10 ^ 6))

-- Each word of the list is a number.
abbrev pub HaveNumbers : Quantity → Option (List ℕ) → Type 0
HaveNumbers quantity value = AllByRecursion (HasNumber quantity) (words_of (or_empty value))

-- The words give the option, with a value.
abbrev pub IsGiven : ScriptOption → List Token → Type 0
IsGiven option words = (text : List ℕ) × (value option words ≡ Some text)

-- The words after the first one of a command say their values; a stripe has a width.
pub record IsWhole (known : Known) (command : Command) (words : List (Heard Value)) : Type 0 where
  pub said : AreSaid known command [] words
  pub width : command ≡ AddPdnStripe → IsGiven Width (map heard_token words)

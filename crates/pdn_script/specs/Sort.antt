-- The sorts of the words of a script: those that a pattern tells apart. Quotes and braces do not matter.
use Rattle.std.specs.Prelude.{◌≡◌, ℕ, ◌≤◌, Bool, true, false, List, [], ◌∷◌, length, slice_get, Some, if◌then◌else◌}
use Rattle.std.proofs.Common.{refl, arith}
use Rattle.pdn_script.specs.declared.sort.Sort.{Sort}
use Rattle.pdn_script.specs.declared.sort.Sort.TheVariants.{Passed, Valued, Other, CommandEnd, TextEnd}
use Rattle.reading.specs.declared.word.Form.{Form}
use Rattle.reading.specs.declared.word.Form.TheVariants.{Break, Semicolon, End}
use Rattle.reading.specs.Word.{Token}
use Rattle.script_options.specs.declared.command.Command.{Command}
use Rattle.script_options.specs.declared.command.Command.TheVariants.{PassedOver}
use Rattle.script_options.specs.declared.option.ScriptOption.{ScriptOption}
use Rattle.script_options.specs.declared.table.ValueForm.{ValueForm}
use Rattle.script_options.specs.declared.table.ValueForm.TheVariants.{Nothing}
use Rattle.script_options.specs.Command.{command_named}
use Rattle.script_options.specs.Option.{option_named}
use Rattle.script_options.specs.Table.{form_of}

abbrev pub number_of : Sort → ℕ
number_of Passed = 0
number_of Valued = 1
number_of Other = 2
number_of CommandEnd = 3
number_of TextEnd = 4

abbrev pub all_sorts : List Sort
all_sorts = Passed ∷ Valued ∷ Other ∷ CommandEnd ∷ TextEnd ∷ []

-- Something stands after an option whose value has this form.
abbrev pub takes : ValueForm → Bool
takes Nothing = false
takes _ = true

-- The option has a value.
abbrev pub takes_value : ScriptOption → Bool
takes_value option = takes (form_of option)

abbrev pub passed_or_other : Command → Sort
passed_or_other PassedOver = Passed
passed_or_other _ = Other

-- The sort of a word that ends no command.
abbrev pub sort_of_text : List ℕ → Sort
sort_of_text text = if takes_value (option_named text) then Valued else passed_or_other (command_named text)

abbrev pub sort_with : Form → List ℕ → Sort
sort_with Break text = CommandEnd
sort_with Semicolon text = CommandEnd
sort_with End text = TextEnd
sort_with _ text = sort_of_text text

abbrev pub sort_of : Token → Sort
sort_of word = sort_with word.form word.text

-- A line feed, a `;` outside quotes and braces, and the end of the text end a command.
abbrev pub ends_with : Form → Bool
ends_with Break = true
ends_with Semicolon = true
ends_with End = true
ends_with _ = false

abbrev pub is_end : Token → Bool
is_end word = ends_with word.form

-- Each sort stands in the list at its number, and there are few.
pub listed : (sort : Sort) → slice_get all_sorts (number_of sort) ≡ Some sort
listed Passed = refl
listed Valued = refl
listed Other = refl
listed CommandEnd = refl
listed TextEnd = refl

pub few : length all_sorts ≤ 64
few = omega arith

-- The commands of a script. Which options a command has, and what their values may be, is asked of the faults.
use Rattle.std.specs.Prelude.{Bool, true, false}
use Rattle.pdn_script.specs.declared.section.Section.{Section}
use Rattle.pdn_script.specs.declared.section.Section.TheVariants.{Commands, Passing}
use Rattle.pdn_script.specs.declared.sort.Sort.{Sort}
use Rattle.pdn_script.specs.declared.sort.Sort.TheVariants.{Passed, Valued, Other, CommandEnd, TextEnd}
use Rattle.reading.specs.Pattern.{Pattern, One, Then, Or, Many}

-- A command ends with its line, at a `;`, or with the text.
abbrev pub is_end_sort : Sort → Bool
is_end_sort CommandEnd = true
is_end_sort TextEnd = true
is_end_sort _ = false

-- A word that ends no command.
abbrev pub is_word : Sort → Bool
is_word CommandEnd = false
is_word TextEnd = false
is_word _ = true

-- The name of an option with a value.
abbrev pub is_valued : Sort → Bool
is_valued Valued = true
is_valued _ = false

-- The name of an option without a value, or a word that is no option, which the faults refuse.
abbrev pub is_alone : Sort → Bool
is_alone Passed = true
is_alone Other = true
is_alone _ = false

-- The first word of a command that is passed over.
abbrev pub is_passed : Sort → Bool
is_passed Passed = true
is_passed _ = false

-- The first word of any other command.
abbrev pub is_first : Sort → Bool
is_first Valued = true
is_first Other = true
is_first _ = false

-- An option with its value, or one word in the place of an option.
abbrev pub option : Pattern Sort
option = Or (Then (One is_valued) (One is_word)) (One is_alone)

-- `COMMAND [-OPTION [VALUE]] ..`, in any order.
abbrev pub command : Pattern Sort
command = Then (One is_first) (Then (Many option) (One is_end_sort))

-- After the first word of a command that is passed over each word is passed over, and the end of the command ends it.
abbrev pub is_any : Sort → Bool
is_any _ = true

-- What may stand in each section.
abbrev pub pattern : Section → Pattern Sort
pattern Commands = Or (One is_passed) (Or command (One is_end_sort))
pattern Passing = One is_any

-- Which words a statement has.
use Rattle.std.specs.Prelude.{Bool, true, false}
use Rattle.reading.specs.Pattern.{Pattern, One, Then, Or}
use Rattle.statements.specs.declared.section.Section.{Section}
use Rattle.statements.specs.declared.sort.Sort.{Sort}
use Rattle.statements.specs.declared.sort.Sort.TheVariants.{Set, Semicolon, Bracket, TextEnd}

abbrev pub is_set : Sort → Bool
is_set Set = true
is_set sort = false

abbrev pub is_semicolon : Sort → Bool
is_semicolon Semicolon = true
is_semicolon sort = false

abbrev pub is_end : Sort → Bool
is_end TextEnd = true
is_end sort = false

-- Any word but `;` and the text's end.
abbrev pub is_name : Sort → Bool
is_name Semicolon = false
is_name TextEnd = false
is_name sort = true

-- Any word but `;`, `(`, `)` and the text's end.
abbrev pub is_number : Sort → Bool
is_number Semicolon = false
is_number Bracket = false
is_number TextEnd = false
is_number sort = true

-- `SET name number ;`.
abbrev pub statement : Pattern Sort
statement = Then (One is_set) (Then (One is_name) (Then (One is_number) (One is_semicolon)))

-- A statement or the end of the text.
abbrev pub unit : Pattern Sort
unit = Or statement (One is_end)

-- What may stand in the one section.
abbrev pub pattern_of : Section → Pattern Sort
pattern_of section = unit

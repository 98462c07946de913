-- What the words of a unit say.
use Rattle.std.specs.Prelude.{◌≡◌, ℤ, pos, true, false, List, [], ◌∷◌}
use Rattle.macro_blocks.specs.declared.section.Section.{Section}
use Rattle.macro_blocks.specs.declared.section.Section.TheVariants.{Layered}
use Rattle.macro_blocks.specs.declared.sort.Sort.{Sort}
use Rattle.macro_blocks.specs.declared.sort.Sort.TheVariants as sorts
use Rattle.macro_blocks.specs.declared.value.Value.{Value}
use Rattle.macro_blocks.specs.declared.value.Value.TheVariants.{First, Coordinate, Refused}
use Rattle.macro_blocks.specs.Format.{section_of}
use Rattle.macro_blocks.specs.Number.{IsCoordinate, IsRefused}
use Rattle.macro_blocks.specs.Rule.{is_number}
use Rattle.macro_blocks.specs.Sort.{sort_of}
use Rattle.number_place.specs.declared.place.Refused.TheVariants.{Number}
use Rattle.reading.specs.declared.word.Heard.{Heard}
use Rattle.reading.specs.Word.{Token, heard_token}

-- The sort of a first word.
abbrev pub first_of : Value → Sort
first_of (First sort) = sort
first_of _ = sorts.Other

-- A coordinate, and 0 of another word.
abbrev pub coordinate_in : Value → ℤ
coordinate_in (Coordinate value) = value
coordinate_in _ = pos 0

-- What a word in the place of a RECT's number says: its coordinate, or why it is none; and nothing, where it stands for no
-- number.
abbrev pub SaysPlace : Token → Value → Type 0
SaysPlace word (Coordinate value) = (is_number (sort_of word) ≡ true) × IsCoordinate word value
SaysPlace word (Refused error) = (is_number (sort_of word) ≡ true) × IsRefused word (Number error)
SaysPlace word _ = is_number (sort_of word) ≡ false

-- What the second word says after a first word of this sort: the first number of a RECT.
abbrev pub SaysSecond : Section → Sort → Token → Value → Type 0
SaysSecond Layered sorts.Rect second = SaysPlace second
SaysSecond section first second = λ value. Unit {0}

-- What a later word says: a number of a RECT.
abbrev pub SaysLater : Section → Token → Value → Type 0
SaysLater Layered word = SaysPlace word
SaysLater section word = λ value. Unit {0}

-- What the last of a unit's words so far says in this section.
abbrev pub says_in : Section → List Token → Value → Type 0
says_in section (first ∷ []) value = first_of value ≡ sort_of first
says_in section (first ∷ second ∷ []) value = SaysSecond section (sort_of first) second value
says_in section (first ∷ a ∷ b ∷ []) value = SaysLater section b value
says_in section (first ∷ a ∷ b ∷ c ∷ []) value = SaysLater section c value
says_in section (first ∷ a ∷ b ∷ c ∷ d ∷ []) value = SaysLater section d value
says_in section _ value = Unit {0}

abbrev pub says : List (List Token) → List Token → Value → Type 0
says units = says_in (section_of units)

-- ## a RECT

-- What a word that has been heard in the place of a number says.
abbrev pub IsPlace : Heard Value → Type 0
IsPlace heard = SaysPlace (heard_token heard) heard.value

-- The words of a RECT, or those up to one that cannot stand there, say their numbers.
abbrev pub ArePlaces : List (Heard Value) → Type 0
ArePlaces (first ∷ a ∷ []) = IsPlace a
ArePlaces (first ∷ a ∷ b ∷ []) = IsPlace a × IsPlace b
ArePlaces (first ∷ a ∷ b ∷ c ∷ []) = IsPlace a × IsPlace b × IsPlace c
ArePlaces (first ∷ a ∷ b ∷ c ∷ d ∷ []) = IsPlace a × IsPlace b × IsPlace c × IsPlace d
ArePlaces (first ∷ a ∷ b ∷ c ∷ d ∷ stop ∷ []) = IsPlace a × IsPlace b × IsPlace c × IsPlace d
ArePlaces _ = Unit {0}

-- The word stands for a number.
abbrev pub IsWhole : Heard Value → Type 0
IsWhole heard = is_number (sort_of (heard_token heard)) ≡ true

-- In a whole RECT four words stand for numbers.
abbrev pub AreWhole : List (Heard Value) → Type 0
AreWhole (first ∷ a ∷ b ∷ c ∷ d ∷ stop ∷ []) = IsWhole a × IsWhole b × IsWhole c × IsWhole d
AreWhole _ = Unit {0}

-- What the words of a unit say.
use Rattle.std.specs.Prelude.{◌≡◌, ℕ, ◌+◌, ◌==◌, ◌&&◌, ◌||◌, nat_lt, ℤ, pos, Bool, true, false, List, [], length, slice_get, map, Option, Some, None}
use Rattle.geom_rect.specs.declared.direction.Orient.{Orient}
use Rattle.geom_rect.specs.declared.direction.Orient.TheVariants as orients
use Rattle.def_design.specs.declared.number.Quantity.TheVariants.{Any}
use Rattle.def_design.specs.declared.question.Question.{Question}
use Rattle.def_design.specs.declared.question.Question.TheVariants as questions
use Rattle.def_design.specs.declared.value.Value.{Value}
use Rattle.def_design.specs.Number.{IsNumber}
use Rattle.def_design.specs.Question.{top_asks, entry_asks, placed_asks, part_asks, shape_asks, placement_asks, regions_asks, region_asks, wiring_asks, end_asks, question_of}
use Rattle.def_statements.specs.declared.section.Section.{Section}
use Rattle.def_statements.specs.declared.section.Section.TheVariants as sections
use Rattle.def_statements.specs.declared.sort.Sort.{Sort}
use Rattle.def_statements.specs.declared.sort.Sort.TheVariants as sorts
use Rattle.def_statements.specs.Sort.{the}
use Rattle.def_statements.specs.Standing.{section_of}
use Rattle.def_statements.specs.Unit.{text_at, last_text, last_sort}
use Rattle.reading.specs.declared.word.Heard.{Heard}
use Rattle.reading.specs.Word.{Token, heard_token}

-- What is asked of the words of a unit of this section that begins with a word of this sort.
abbrev pub asks_by : Section → Sort → List Question
asks_by sections.Top first = top_asks first
asks_by sections.Components first = entry_asks first
asks_by sections.EntryPart first = placed_asks first
asks_by sections.Part first = part_asks first
asks_by sections.Parts first = shape_asks first
asks_by sections.Rects first = shape_asks first
asks_by sections.Placement first = placement_asks first
asks_by sections.Regions first = regions_asks first
asks_by sections.Region first = region_asks first
asks_by sections.WiringPart first = wiring_asks first
asks_by sections.Ended first = end_asks first
asks_by _ first = []

-- ## what a word says

-- A word that has to be no number.
abbrev pub SaysNothing : ℤ → Type 0
SaysNothing number = Unit {0}

-- The text is this number, where a number is asked of the word.
abbrev pub SaysAsked : Question → List ℕ → ℤ → Type 0
SaysAsked (questions.Number quantity) text number = IsNumber quantity text number
SaysAsked questions.Apart text number = IsNumber Any text number
SaysAsked _ text number = SaysNothing number

-- The last of a unit's words so far, after these units, has this sort and says this number.
pub record Says (units : List (List Token)) (unit : List Token) (value : Value) : Type 0 where
  pub sort : value.sort ≡ last_sort unit
  pub number : SaysAsked (question_of (section_of units) unit) (last_text unit) value.number

abbrev pub says : List (List Token) → List Token → Value → Type 0
says units unit value = Says units unit value

-- ## the words of a unit by their places, with what they say

abbrev pub sort_said : Option (Heard Value) → Sort
sort_said None = sorts.Other
sort_said (Some heard) = heard.value.sort

abbrev pub number_said : Option (Heard Value) → ℤ
number_said None = pos 0
number_said (Some heard) = heard.value.number

abbrev pub said_sort : ℕ → List (Heard Value) → Sort
said_sort n unit = sort_said (slice_get unit n)

abbrev pub said_number : ℕ → List (Heard Value) → ℤ
said_number n unit = number_said (slice_get unit n)

abbrev pub first_or : Option (Heard Value) → Sort → Sort
first_or None sort = sort
first_or (Some heard) sort = heard.value.sort

-- The sort of the first word, where the next one has this sort.
abbrev pub first_said : List (Heard Value) → Sort → Sort
first_said before sort = first_or (slice_get before 0) sort

-- ## the kinds of units, by the sorts that are said

abbrev pub said_begins : Sort → ℕ → List (Heard Value) → Bool
said_begins word words unit = (length unit == words) && the word (said_sort 0 unit)

abbrev pub said_row : List (Heard Value) → Bool
said_row unit = nat_lt 6 (length unit) && the sorts.Row (said_sort 0 unit)

abbrev pub said_placed : List (Heard Value) → Bool
said_placed unit = (length unit == 6) && (the sorts.Placed (said_sort 0 unit) || the sorts.Fixed (said_sort 0 unit))

abbrev pub said_excepts : List (Heard Value) → Bool
said_excepts unit = (length unit == 1) && (the sorts.ExceptPgNet (said_sort 0 unit) || the sorts.Fills (said_sort 0 unit))

-- The orientation that a word says, and north of a word that says none.
abbrev pub turn_of : Sort → Orient
turn_of sorts.S = orients.S
turn_of sorts.W = orients.W
turn_of sorts.E = orients.E
turn_of sorts.FN = orients.FN
turn_of sorts.FS = orients.FS
turn_of sorts.FW = orients.FW
turn_of sorts.FE = orients.FE
turn_of _ = orients.N

-- ## numbers

-- The word that has n words before it is the number that it says.
abbrev pub IsCoordinate : ℕ → List (Heard Value) → Type 0
IsCoordinate n unit = IsNumber Any (text_at n (map heard_token unit)) (said_number n unit)

-- The words of two points, of which the first has n words before it and the second four more, are the numbers that they
-- say.
pub record AreCornersOf (n : ℕ) (unit : List Token) (heard : List (Heard Value)) : Type 0 where
  pub x : IsNumber Any (text_at n unit) (said_number n heard)
  pub y : IsNumber Any (text_at (n + 1) unit) (said_number (n + 1) heard)
  pub z : IsNumber Any (text_at (n + 4) unit) (said_number (n + 4) heard)
  pub w : IsNumber Any (text_at (n + 4 + 1) unit) (said_number (n + 4 + 1) heard)

abbrev pub HasCorners : ℕ → List (Heard Value) → Type 0
HasCorners n unit = AreCornersOf n (map heard_token unit) unit

-- How many sites a row has, which says so or not.
abbrev pub count_said : Bool → List (Heard Value) → ℤ
count_said true unit = said_number 7 unit
count_said false unit = pos 1

-- How far apart they are, where it says so.
abbrev pub step_said : Bool → List (Heard Value) → Option ℤ
step_said true unit = Some (said_number 11 unit)
step_said false unit = None

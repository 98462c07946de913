-- What may follow: a card or a dot line, the words of a dot line that is passed over, nothing after `.end`.
use Rattle.std.specs.Prelude.{◌≡◌, ℕ, ◌≤◌, Bool, true, false, List, [], ◌∷◌, length, slice_get, Option, Some, None}
use Rattle.std.proofs.Common.{refl, arith}
use Rattle.spice_cards.specs.declared.section.Section.{Section}
use Rattle.spice_cards.specs.declared.section.Section.TheVariants.{Cards, Passing, Ended}
use Rattle.spice_cards.specs.declared.sort.Sort.{Sort}
use Rattle.spice_cards.specs.declared.sort.Sort.TheVariants.{Dot, End, CardEnd}
use Rattle.spice_cards.specs.Sort.{sort_of}
use Rattle.reading.specs.Word.{Token, last_of}

abbrev pub section_number : Section → ℕ
section_number Cards = 0
section_number Passing = 1
section_number Ended = 2

abbrev pub all_sections : List Section
all_sections = Cards ∷ Passing ∷ Ended ∷ []

-- After the first word of a dot line come its other words, after `.end` the text has ended, and after a card comes another.
abbrev pub after_card : Sort → Section
after_card Dot = Passing
after_card End = Ended
after_card _ = Cards

-- A dot line goes on to its end.
abbrev pub after_word : Sort → Section
after_word CardEnd = Cards
after_word _ = Passing

-- The section after a unit that ends with this word.
abbrev pub section_by : Section → Option Token → Section
section_by section None = section
section_by Cards (Some word) = after_card (sort_of word)
section_by Passing (Some word) = after_word (sort_of word)
section_by Ended (Some word) = Ended

abbrev pub section_after : Section → List Token → Section
section_after section unit = section_by section (last_of unit)

-- The section after these units, from this one on.
abbrev pub section_from : Section → List (List Token) → Section
section_from section [] = section
section_from section (unit ∷ units) = section_from (section_after section unit) units

-- The section after these units; a text begins with a card.
abbrev pub section_of : List (List Token) → Section
section_of units = section_from Cards units

-- `.end` has ended the text.
abbrev pub is_ended : Section → Bool
is_ended Cards = false
is_ended Passing = false
is_ended Ended = true

-- Each section stands in the list at its number, and there are few.
pub listed : (section : Section) → slice_get all_sections (section_number section) ≡ Some section
listed Cards = refl
listed Passing = refl
listed Ended = refl

pub few : length all_sections ≤ 64
few = omega arith

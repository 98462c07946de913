-- What may follow: a line, the words of a comment, nothing after the end of the text. The last word of the last unit
-- decides.
use Rattle.std.specs.Prelude.{◌≡◌, ℕ, ◌≤◌, List, [], ◌∷◌, length, slice_get, Option, Some, None}
use Rattle.std.proofs.Common.{refl, arith}
use Rattle.bias_file.specs.declared.section.Section.{Section}
use Rattle.bias_file.specs.declared.section.Section.TheVariants.{LineStart, Remark, Nothing}
use Rattle.bias_file.specs.declared.sort.Sort.{Sort}
use Rattle.bias_file.specs.declared.sort.Sort.TheVariants.{LineEnd, TextEnd}
use Rattle.bias_file.specs.Sort.{sort_of}
use Rattle.reading.specs.Word.{Token, last_of}

abbrev pub section_number : Section → ℕ
section_number LineStart = 0
section_number Remark = 1
section_number Nothing = 2

abbrev pub all_sections : List Section
all_sections = LineStart ∷ Remark ∷ Nothing ∷ []

-- After the end of a line comes a line. Else the word begins a comment or stands in one, and the comment goes on.
abbrev pub section_after_word : Sort → Section
section_after_word LineEnd = LineStart
section_after_word TextEnd = Nothing
section_after_word _ = Remark

-- The section after a unit, by its last word.
abbrev pub section_by : Option Token → Section
section_by None = LineStart
section_by (Some word) = section_after_word (sort_of word)

abbrev pub section_after : List Token → Section
section_after unit = section_by (last_of unit)

-- The section after these units, by the last of them; a text begins with a line.
abbrev pub section_of : List (List Token) → Section
section_of [] = LineStart
section_of (unit ∷ []) = section_after unit
section_of (unit ∷ next ∷ units) = section_of (next ∷ units)

-- Each section stands in the list at its number, and there are few.
pub listed : (section : Section) → slice_get all_sections (section_number section) ≡ Some section
listed LineStart = refl
listed Remark = refl
listed Nothing = refl

pub few : length all_sections ≤ 64
few = omega arith

-- What the words of a unit say.
use Rattle.std.specs.Prelude.{◌≡◌, ℕ, List, [], ◌∷◌, Ok, pos}
use Rattle.lef_cells.specs.declared.sort.Sort.{Sort}
use Rattle.lef_cells.specs.declared.sort.Sort.TheVariants.{Size, Other}
use Rattle.lef_cells.specs.declared.value.Value.{Value}
use Rattle.lef_cells.specs.declared.value.Value.TheVariants.{First, Length}
use Rattle.lef_cells.specs.Number.{length}
use Rattle.lef_cells.specs.Sort.{sort_of}
use Rattle.number_place.specs.Place.{IsNumberAt}
use Rattle.reading.specs.Word.{Token}

-- The sort of a first word.
abbrev pub first_of : Value → Sort
first_of (First sort) = sort
first_of _ = Other

-- A length, and 0 of another word.
abbrev pub length_of : Value → ℕ
length_of (Length value) = value
length_of _ = 0

-- The value is the length that the text is.
abbrev pub IsLength : List ℕ → Value → Type 0
IsLength text value = IsNumberAt length text (Ok (pos (length_of value)))

-- What the second word says after a first word of this sort: the width of a SIZE.
abbrev pub SaysSecond : Sort → List ℕ → Value → Type 0
SaysSecond Size text = IsLength text
SaysSecond _ text = λ value. Unit {0}

-- What the last of a unit's words so far says. The fourth word is the height of a SIZE.
abbrev pub says : List Token → Value → Type 0
says (first ∷ []) value = first_of value ≡ sort_of first
says (first ∷ second ∷ []) value = SaysSecond (sort_of first) second.text value
says (size ∷ width ∷ by ∷ height ∷ []) value = IsLength height.text value
says _ value = Unit {0}

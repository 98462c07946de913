-- What the words of a line say.
use Rattle.std.specs.Prelude.{◌≡◌, ℤ, pos, ◌≤ℤ◌, true, ℕ, List, [], ◌∷◌, Ok}
use Rattle.bias_file.specs.declared.value.Value.{Value}
use Rattle.bias_file.specs.declared.value.Value.TheVariants.{Line, Wide, Small}
use Rattle.bias_file.specs.declared.sort.Sort.{Sort}
use Rattle.bias_file.specs.declared.sort.Sort.TheVariants.{Supply, DropLimit, Pad, Cell, Instance, Other}
use Rattle.bias_file.specs.Sort.{sort_of}
use Rattle.bias_file.specs.Rule.{is_number}
use Rattle.bias_file.specs.Number.{volts, drop_volts, amperes, micrometres}
use Rattle.number_place.specs.declared.place.NumberPlace.{NumberPlace}
use Rattle.number_place.specs.Place.{IsNumberAt}
use Rattle.reading.specs.Word.{Token}

-- The line that a first word begins.
abbrev pub line_of : Value → Sort
line_of (Line sort) = sort
line_of _ = Other

-- Volts, and 0 of another word.
abbrev pub wide_of : Value → ℤ
wide_of (Wide value) = value
wide_of _ = pos 0

-- Amperes or a place, and 0 of another word.
abbrev pub small_of : Value → ℤ
small_of (Small value) = value
small_of _ = pos 0

-- The value is the number of the text in the place: of volts, and of amperes or places.
abbrev pub IsWide : NumberPlace → List ℕ → Value → Type 0
IsWide place text value = IsNumberAt place text (Ok (wide_of value))

abbrev pub IsSmall : NumberPlace → List ℕ → Value → Type 0
IsSmall place text value = IsNumberAt place text (Ok (small_of value))

-- What the first number after the name says on a line with this first word.
abbrev pub SaysThird : Sort → List ℕ → Value → Type 0
SaysThird Supply text = IsWide volts text
SaysThird DropLimit text = IsWide drop_volts text
SaysThird Cell text = IsSmall amperes text
SaysThird Instance text = IsSmall amperes text
SaysThird _ text = λ value. Unit {0}

-- The second number of a range is not below the first. The line's end in its place says nothing.
abbrev pub SaysHigh : Token → Token → Value → Type 0
SaysHigh low high value = is_number (sort_of high) ≡ true → IsSmall amperes high.text value
    × ((least : ℤ) → IsNumberAt amperes low.text (Ok least) → least ≤ℤ small_of value)

-- What the fourth word says on a line with this first word.
abbrev pub SaysFourth : Sort → Token → Token → Value → Type 0
SaysFourth Cell third fourth = SaysHigh third fourth
SaysFourth Instance third fourth = SaysHigh third fourth
SaysFourth Pad third fourth = IsSmall micrometres fourth.text
SaysFourth _ third fourth = λ value. Unit {0}

-- What the fifth word says on a line with this first word.
abbrev pub SaysFifth : Sort → List ℕ → Value → Type 0
SaysFifth Pad text = IsSmall micrometres text
SaysFifth _ text = λ value. Unit {0}

-- What the last of a line's words so far says.
abbrev pub says : List Token → Value → Type 0
says (first ∷ []) value = line_of value ≡ sort_of first
says (first ∷ name ∷ third ∷ []) value = SaysThird (sort_of first) third.text value
says (first ∷ name ∷ third ∷ fourth ∷ []) value = SaysFourth (sort_of first) third fourth value
says (first ∷ net ∷ layer ∷ x ∷ y ∷ []) value = SaysFifth (sort_of first) y.text value
says _ value = Unit {0}

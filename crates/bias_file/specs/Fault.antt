-- The faults of a bias file: a number that is refused, a range that falls, a name that stands again.
use Rattle.std.specs.Prelude.{◌≡◌, ◌⊎◌, ℕ, true, ℤ, ◌<ℤ◌, List, [], ◌∷◌, map, Contains, Ok, Err}
use Rattle.bias_file.specs.declared.error.BiasKind.{BiasKind}
use Rattle.bias_file.specs.declared.error.BiasKind.TheVariants as kinds
use Rattle.bias_file.specs.declared.sort.Sort.{Sort}
use Rattle.bias_file.specs.declared.sort.Sort.TheVariants.{Supply, DropLimit, Pad, Cell, Instance}
use Rattle.bias_file.specs.Sort.{sort_of}
use Rattle.bias_file.specs.Rule.{has_value, lines, name_on, is_number}
use Rattle.bias_file.specs.Number.{volts, drop_volts, amperes, micrometres}
use Rattle.number_place.specs.declared.place.NumberPlace.{NumberPlace}
use Rattle.number_place.specs.declared.place.Refused.{Refused}
use Rattle.number_place.specs.declared.place.Refused.TheVariants.{Syntax, Number}
use Rattle.number_place.specs.Place.{IsNumberAt}
use Rattle.reading.specs.declared.refusal.Found.{Found}
use Rattle.reading.specs.Word.{Token}

-- The kind of a number that is refused.
abbrev pub refused_kind : Refused → BiasKind
refused_kind Syntax = kinds.Syntax
refused_kind (Number error) = kinds.Number error

-- The text is refused in the place, and so this is its kind.
abbrev pub NumberFault : NumberPlace → List ℕ → BiasKind → Type 0
NumberFault place text kind = (refused : Refused) × IsNumberAt place text (Err refused) × (kind ≡ refused_kind refused)

-- Why the first number after the name is refused on a line with this first word.
abbrev pub ValueFault : Sort → List ℕ → BiasKind → Type 0
ValueFault Supply text = NumberFault volts text
ValueFault DropLimit text = NumberFault drop_volts text
ValueFault Cell text = NumberFault amperes text
ValueFault Instance text = NumberFault amperes text
ValueFault _ text = λ kind. ⊥

-- The second number is below the first.
abbrev pub Falls : List ℕ → List ℕ → Type 0
Falls low high = (a : ℤ) × (b : ℤ) × IsNumberAt amperes low (Ok a) × IsNumberAt amperes high (Ok b) × (b <ℤ a)

-- Why the second number of a range is refused. A range may lack it: then the line's end stands in its place.
abbrev pub RangeFault : Token → Token → BiasKind → Type 0
RangeFault low high kind =
    (is_number (sort_of high) ≡ true)
    × (NumberFault amperes high.text kind ⊎ ((kind ≡ kinds.Falling) × Falls low.text high.text))

-- Why the fourth word of a line with this first word is refused: the second number of a range, or the x of a pad's
-- place.
abbrev pub FourthFault : Sort → Token → Token → BiasKind → Type 0
FourthFault Cell third fourth = RangeFault third fourth
FourthFault Instance third fourth = RangeFault third fourth
FourthFault Pad third fourth = NumberFault micrometres fourth.text
FourthFault _ third fourth = λ kind. ⊥

-- Why the fifth word of a line with this first word is refused: the y of a pad's place.
abbrev pub FifthFault : Sort → List ℕ → BiasKind → Type 0
FifthFault Pad text = NumberFault micrometres text
FifthFault _ text = λ kind. ⊥

-- The names on the lines with this first word.
abbrev pub names_of : Sort → List (List Token) → List (List ℕ)
names_of word units = map name_on (lines word units)

-- The name stands again: a line before has it after the same first word. Pads may repeat.
abbrev pub NameFault : List (List Token) → Sort → List ℕ → BiasKind → Type 0
NameFault units word name kind = (kind ≡ kinds.Twice) × (has_value word ≡ true) × Contains (names_of word units) name

-- The fault that the last of a line's words so far shows, at that word.
abbrev pub fault : List (List Token) → List Token → Found BiasKind → Type 0
fault units (first ∷ name ∷ []) found = (found.at ≡ 1) × NameFault units (sort_of first) name.text found.kind
fault units (first ∷ name ∷ value ∷ []) found = (found.at ≡ 2) × ValueFault (sort_of first) value.text found.kind
fault units (first ∷ name ∷ third ∷ fourth ∷ []) found =
    (found.at ≡ 3) × FourthFault (sort_of first) third fourth found.kind
fault units (first ∷ net ∷ layer ∷ x ∷ y ∷ []) found = (found.at ≡ 4) × FifthFault (sort_of first) y.text found.kind
fault units _ found = ⊥

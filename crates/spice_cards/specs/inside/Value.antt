-- What the words of a card say.
use Rattle.std.specs.Prelude.{◌≡◌, ◌||◌, ℕ, ℤ, pos, ◌≤ℤ◌, Bool, true, false, List, [], ◌∷◌, Ok, if◌then◌else◌}
use Rattle.number_place.specs.declared.place.NumberPlace.{NumberPlace}
use Rattle.number_place.specs.Place.{IsNumberAt}
use Rattle.reading.specs.declared.word.Heard.{Heard}
use Rattle.reading.specs.Word.{Token}
use Rattle.spice_cards.specs.declared.sort.Sort.{Sort}
use Rattle.spice_cards.specs.declared.sort.Sort.TheVariants as sorts
use Rattle.spice_cards.specs.declared.value.Value.{Value}
use Rattle.spice_cards.specs.declared.value.Value.TheVariants.{First, Dc, Wide, Small}
use Rattle.spice_cards.specs.Sort.{sort_of, the}
use Rattle.spice_cards.specs.Card.{is_ground, without_dc}
use Rattle.spice_cards.specs.Number.{ohms, volts, amperes, farads}

-- The sort of a first word.
abbrev pub letter_of : Value → Sort
letter_of (First sort) = sort
letter_of _ = sorts.Other

-- The word is `DC` before a value.
abbrev pub says_dc : Value → Bool
says_dc Dc = true
says_dc _ = false

-- Ohms, volts or farads, and 0 of another word.
abbrev pub wide_of : Value → ℤ
wide_of (Wide value) = value
wide_of _ = pos 0

-- Amperes, and 0 of another word.
abbrev pub small_of : Value → ℤ
small_of (Small value) = value
small_of _ = pos 0

-- The value is the number of the text in the place: of ohms, volts and farads, and of amperes.
abbrev pub IsWide : NumberPlace → List ℕ → Value → Type 0
IsWide place text said = IsNumberAt place text (Ok (wide_of said)) × (says_dc said ≡ false)

abbrev pub IsSmall : NumberPlace → List ℕ → Value → Type 0
IsSmall place text said = IsNumberAt place text (Ok (small_of said)) × (says_dc said ≡ false)

-- The volts of a source between two nodes other than `0`, which are 0.
abbrev pub IsFloating : List ℕ → Value → Type 0
IsFloating text said = IsWide volts text said × (wide_of said ≡ pos 0)

-- The volts of a source with these nodes: 0 between two nodes other than `0`.
abbrev pub IsVolts : List ℕ → List ℕ → List ℕ → Value → Type 0
IsVolts a b text said = IsWide volts text said × ((is_ground a || is_ground b) ≡ false → wide_of said ≡ pos 0)

-- The low end of the range of a load, which is not above the load's value.
abbrev pub IsLow : List ℕ → List ℕ → Value → Type 0
IsLow value text said = IsSmall amperes text said × ((v : ℤ) → IsNumberAt amperes value (Ok v) → small_of said ≤ℤ v)

-- The high end, which is not below it.
abbrev pub IsHigh : List ℕ → List ℕ → Value → Type 0
IsHigh value text said = IsSmall amperes text said × ((v : ℤ) → IsNumberAt amperes value (Ok v) → v ≤ℤ small_of said)

-- What the last of the words so far says that stand after the nodes of a resistor.
abbrev pub SaysOhms : List Token → Value → Type 0
SaysOhms (value ∷ []) said = IsWide ohms value.text said
SaysOhms _ said = Unit {0}

-- The same of a source with these nodes, `DC` aside.
abbrev pub SaysVolts : List ℕ → List ℕ → List Token → Value → Type 0
SaysVolts a b (value ∷ []) said = IsVolts a b value.text said
SaysVolts a b _ said = Unit {0}

-- The same of a load, `DC` aside.
abbrev pub SaysAmperes : List Token → Value → Type 0
SaysAmperes (value ∷ []) said = IsSmall amperes value.text said
SaysAmperes (value ∷ range ∷ low ∷ []) said = IsLow value.text low.text said
SaysAmperes (value ∷ range ∷ low ∷ high ∷ []) said = IsHigh value.text high.text said
SaysAmperes _ said = Unit {0}

-- The same of a capacitor.
abbrev pub SaysFarads : List Token → Value → Type 0
SaysFarads (value ∷ []) said = IsWide farads value.text said
SaysFarads _ said = Unit {0}

-- The first word after the nodes says whether it is `DC`.
abbrev pub SaysDc : List Token → Value → Type 0
SaysDc (word ∷ []) said = says_dc said ≡ the sorts.Dc (sort_of word)
SaysDc _ said = Unit {0}

-- What the last of the words so far says where `DC` may stand before them.
abbrev pub SaysAfterDc : (List Token → Value → Type 0) → List Token → Value → Type 0
SaysAfterDc says words said = SaysDc words said × says (without_dc words) said

-- What the last of the words so far says that stand after the nodes of a card with this letter.
abbrev pub SaysWord : Sort → List ℕ → List ℕ → List Token → Value → Type 0
SaysWord sorts.Resistor a b = SaysOhms
SaysWord sorts.Source a b = SaysAfterDc (SaysVolts a b)
SaysWord sorts.Load a b = SaysAfterDc SaysAmperes
SaysWord sorts.Capacitor a b = SaysFarads
SaysWord _ a b = λ words said. Unit {0}

-- What the last of a unit's words so far says.
abbrev pub says : List Token → Value → Type 0
says (first ∷ []) said = letter_of said ≡ sort_of first
says (first ∷ a ∷ b ∷ words) said = SaysWord (sort_of first) a.text b.text words said
says _ said = Unit {0}

-- No word stands before.
abbrev pub has_none : List (Heard Value) → Bool
has_none [] = true
has_none (first ∷ words) = false

-- The words after the nodes, without `DC`.
abbrev pub heard_without_dc : List (Heard Value) → List (Heard Value)
heard_without_dc [] = []
heard_without_dc (first ∷ words) = if says_dc first.value then words else first ∷ words

-- How many words stand before the value.
abbrev pub heard_value_at : List (Heard Value) → ℕ
heard_value_at [] = 3
heard_value_at (first ∷ words) = if says_dc first.value then 4 else 3

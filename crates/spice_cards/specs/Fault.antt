-- The faults of a netlist: cards that are not read, sources that float, numbers that are refused, and ranges that do not hold their
-- value.
use Rattle.std.specs.Prelude.{◌≡◌, ℕ, ◌+◌, ◌==◌, Bool, true, false, ◌||◌, ℤ, int_lt, unsigned_abs, List, [], ◌∷◌, Option, None, Some, Result, Ok, Err, if◌then◌else◌}
use Rattle.fixed_decimal.specs.declared.error.DecimalError.TheVariants.{NotNumber, Vanishes, Range}
use Rattle.spice_cards.specs.declared.error.CardsKind.{CardsKind}
use Rattle.spice_cards.specs.declared.error.CardsKind.TheVariants as kinds
use Rattle.spice_cards.specs.declared.section.Section.{Section}
use Rattle.spice_cards.specs.declared.section.Section.TheVariants.{Cards}
use Rattle.spice_cards.specs.declared.sort.Sort.{Sort}
use Rattle.spice_cards.specs.declared.sort.Sort.TheVariants as sorts
use Rattle.spice_cards.specs.Sort.{sort_of}
use Rattle.spice_cards.specs.Section.{section_of}
use Rattle.spice_cards.specs.Card.{is_ground, without_dc, value_at}
use Rattle.spice_cards.specs.Number.{ohms, volts, amperes, farads}
use Rattle.number_place.specs.declared.place.NumberPlace.{NumberPlace}
use Rattle.number_place.specs.declared.place.Refused.{Refused}
use Rattle.number_place.specs.declared.place.Refused.TheVariants.{Syntax, Number}
use Rattle.number_place.specs.Place.{IsNumberAt}
use Rattle.reading.specs.declared.refusal.Found.{Found}
use Rattle.reading.specs.Word.{Token}

-- The value is 0.
abbrev pub is_zero : ℤ → Bool
is_zero value = unsigned_abs value == 0

-- The kind of a number that is refused.
abbrev pub refused_kind : Refused → CardsKind
refused_kind Syntax = kinds.Syntax
refused_kind (Number error) = kinds.Number error

-- Why a value is refused: it is no number, one that vanishes, one beyond its limit, or one of a sign that may not stand.
abbrev pub refused_by : Result ℤ Refused → Option CardsKind
refused_by (Ok value) = None
refused_by (Err refused) = Some (refused_kind refused)

-- Why the value of a source between two nodes other than `0` is refused: each number other than 0 floats, also one that vanishes or
-- is beyond its limit.
abbrev pub floating_by : Result ℤ Refused → Option CardsKind
floating_by (Ok value) = if is_zero value then None else Some kinds.FloatingSource
floating_by (Err (Number Vanishes)) = Some kinds.FloatingSource
floating_by (Err (Number Range)) = Some kinds.FloatingSource
floating_by (Err (Number NotNumber)) = Some (kinds.Number NotNumber)
floating_by (Err Syntax) = Some kinds.Syntax

-- Why the value of a source with these nodes is refused.
abbrev pub source_by : List ℕ → List ℕ → Result ℤ Refused → Option CardsKind
source_by a b answer = if is_ground a || is_ground b then refused_by answer else floating_by answer

-- Why the low end of the range of a load with this value is refused: it is refused itself, or above the value.
abbrev pub low_by : Result ℤ Refused → Result ℤ Refused → Option CardsKind
low_by (Ok value) (Ok low) = if int_lt value low then Some kinds.OutOfRange else None
low_by (Ok value) (Err refused) = Some (refused_kind refused)
low_by (Err reason) answer = None

-- Why its high end is refused: it is refused itself, or below the value.
abbrev pub high_by : Result ℤ Refused → Result ℤ Refused → Option CardsKind
high_by (Ok value) (Ok high) = if int_lt high value then Some kinds.OutOfRange else None
high_by (Ok value) (Err refused) = Some (refused_kind refused)
high_by (Err reason) answer = None

-- What the text stands for in the place is refused so.
abbrev pub AnswerFault : NumberPlace → (Result ℤ Refused → Option CardsKind) → List ℕ → CardsKind → Type 0
AnswerFault place by text kind = (answer : Result ℤ Refused) × IsNumberAt place text answer × (by answer ≡ Some kind)

-- What the text stands for as an end of the range of a load with this value is refused so.
abbrev pub EndFault : (Result ℤ Refused → Result ℤ Refused → Option CardsKind) → List ℕ → List ℕ → CardsKind → Type 0
EndFault by value text kind =
    (of_value : Result ℤ Refused) × (answer : Result ℤ Refused) × IsNumberAt amperes value of_value
    × IsNumberAt amperes text answer × (by of_value answer ≡ Some kind)

-- The word begins a card or a dot line other than those that are read.
abbrev pub is_strange : Sort → Bool
is_strange sorts.Dc = true
is_strange sorts.Mark = true
is_strange sorts.Other = true
is_strange _ = false

-- Why the first word of a unit is refused.
abbrev pub FirstFault : Section → Sort → CardsKind → Type 0
FirstFault section sort kind = (section ≡ Cards) × (is_strange sort ≡ true) × (kind ≡ kinds.OutOfProfileCard)

-- The fault that the last of the words after the nodes of a resistor shows.
abbrev pub ResistorFault : List Token → Found CardsKind → Type 0
ResistorFault (value ∷ []) found = (found.at ≡ 3) × AnswerFault ohms refused_by value.text found.kind
ResistorFault _ found = ⊥

-- The same of a source, which may have `DC` before its value.
abbrev pub SourceFault : List ℕ → List ℕ → ℕ → List Token → Found CardsKind → Type 0
SourceFault a b at (value ∷ []) found = (found.at ≡ at) × AnswerFault volts (source_by a b) value.text found.kind
SourceFault a b at _ found = ⊥

-- The same of a load, which may have `DC` before its value and a range line after it.
abbrev pub LoadFault : ℕ → List Token → Found CardsKind → Type 0
LoadFault at (value ∷ []) found = (found.at ≡ at) × AnswerFault amperes refused_by value.text found.kind
LoadFault at (value ∷ range ∷ low ∷ []) found = (found.at ≡ at + 2) × EndFault low_by value.text low.text found.kind
LoadFault at (value ∷ range ∷ low ∷ high ∷ []) found =
    (found.at ≡ at + 3) × EndFault high_by value.text high.text found.kind
LoadFault at _ found = ⊥

-- The same of a capacitor.
abbrev pub CapacitorFault : List Token → Found CardsKind → Type 0
CapacitorFault (value ∷ []) found = (found.at ≡ 3) × AnswerFault farads refused_by value.text found.kind
CapacitorFault _ found = ⊥

-- The same of a card with this letter.
abbrev pub CardFault : Sort → List ℕ → List ℕ → List Token → Found CardsKind → Type 0
CardFault sorts.Resistor a b words found = ResistorFault words found
CardFault sorts.Source a b words found = SourceFault a b (value_at words) (without_dc words) found
CardFault sorts.Load a b words found = LoadFault (value_at words) (without_dc words) found
CardFault sorts.Capacitor a b words found = CapacitorFault words found
CardFault _ a b words found = ⊥

-- The fault that the last of a unit's words so far shows, at that word.
abbrev pub fault : List (List Token) → List Token → Found CardsKind → Type 0
fault units (first ∷ []) found = (found.at ≡ 0) × FirstFault (section_of units) (sort_of first) found.kind
fault units (first ∷ a ∷ b ∷ words) found = CardFault (sort_of first) a.text b.text words found
fault units _ found = ⊥

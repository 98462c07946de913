-- What the words of a unit say.
use Rattle.std.specs.Prelude.{◌≡◌, ℕ, suc, ℤ, pos, ◌-ℤ◌, unsigned_abs, List, [], ◌∷◌, map, slice_get, Option, Some, None, Result, Ok, Err}
use Rattle.std.specs.Int.{w64}
use Rattle.std.proofs.Common.{to_z, of_z}
use Rattle.lef_tech.specs.declared.error.TechKind.{TechKind}
use Rattle.lef_tech.specs.declared.number.Quantity.{Quantity}
use Rattle.lef_tech.specs.declared.question.Question.{Question}
use Rattle.lef_tech.specs.declared.question.Question.TheVariants.{Number, Point, Value, Used}
use Rattle.lef_tech.specs.declared.section.Section.{Section}
use Rattle.lef_tech.specs.declared.sort.Sort.{Sort}
use Rattle.lef_tech.specs.declared.state.State.{State}
use Rattle.lef_tech.specs.declared.statement.Statement.{Statement}
use Rattle.lef_tech.specs.declared.statement.Statement.TheVariants.{Extent}
use Rattle.lef_tech.specs.declared.value.Value.{Value as Said}
use Rattle.lef_tech.specs.Fault.{FaultBy, used_found}
use Rattle.lef_tech.specs.Number.{place_of}
use Rattle.lef_tech.specs.Question.{question_of}
use Rattle.lef_tech.specs.Shape.{shape_in, text_at}
use Rattle.lef_tech.specs.Sort.{sort_of}
use Rattle.lef_tech.specs.Statement.{Saying, Plain, Named, Of, Alone, OfTwo, OfCorners}
use Rattle.lef_tech.specs.Turn.{state_of}
use Rattle.number_place.specs.declared.place.Refused.{Refused}
use Rattle.number_place.specs.Place.{IsNumberAt}
use Rattle.reading.specs.declared.refusal.Found.{Found}
use Rattle.reading.specs.declared.word.Heard.{Heard}
use Rattle.reading.specs.Word.{Token, heard_token}

-- The answer of a reading, by its number.
abbrev pub answer_of : Result Said Refused → Result ℤ Refused
answer_of (Ok value) = Ok value.number
answer_of (Err refused) = Err refused

-- The number is that of the text.
abbrev pub IsText : Quantity → List ℕ → ℤ → Type 0
IsText quantity text number = IsNumberAt (place_of quantity) text (Ok number)

-- The kind of the number before the last word, which that word shows to be used.
abbrev pub used_of : Question → Option Quantity
used_of (Used quantity) = Some quantity
used_of _ = None

-- What the last word says where this is asked of it.
abbrev pub SaysLast : Question → List ℕ → ℤ → Type 0
SaysLast (Number quantity) text number = IsText quantity text number
SaysLast (Point quantity) text number = IsText quantity text number
SaysLast (Value quantity) text number = IsText quantity text number
SaysLast _ text number = Unit {0}

-- The same of the word before.
abbrev pub SaysUsed : Question → List ℕ → ℤ → Type 0
SaysUsed (Used quantity) text number = IsText quantity text number
SaysUsed _ text number = Unit {0}

-- A word of this sort whose number is such a one.
abbrev pub SaysHeard : (ℤ → Type 0) → Sort → Said → Type 0
SaysHeard IsNumber sort value = (value.sort ≡ sort) × IsNumber value.number

-- A word of this sort that is no number.
abbrev pub SaysPlain : Sort → Said → Type 0
SaysPlain sort value = SaysHeard (λ number. Unit {0}) sort value

-- The sort and the number of the last word.
abbrev pub SaysOne : Question → Token → Said → Type 0
SaysOne asked last value = SaysHeard (SaysLast asked last.text) (sort_of last) value

-- The same, or the number of the word before.
abbrev pub SaysNext : Question → Token → Token → Said → Type 0
SaysNext asked before last value = SaysOne asked last value × SaysUsed asked before.text value.number

-- What the last of a unit's words so far says, of which this is asked.
abbrev pub SaysBy : Question → List Token → Said → Type 0
SaysBy asked (a ∷ []) value = SaysOne asked a value
SaysBy asked (a ∷ b ∷ []) value = SaysNext asked a b value
SaysBy asked (a ∷ b ∷ c ∷ []) value = SaysNext asked b c value
SaysBy asked (a ∷ b ∷ c ∷ d ∷ []) value = SaysNext asked c d value
SaysBy asked (a ∷ b ∷ c ∷ d ∷ e ∷ []) value = SaysNext asked d e value
SaysBy asked (a ∷ b ∷ c ∷ d ∷ e ∷ f ∷ []) value = SaysNext asked e f value
SaysBy asked _ value = Unit {0}

-- The same in a section.
abbrev pub SaysIn : Section → List Token → Said → Type 0
SaysIn section part value = SaysBy (question_of section (shape_in part)) part value

abbrev pub says : List (List Token) → List Token → Said → Type 0
says units part value = SaysIn (state_of units).place.section part value

-- What is said where no fault is shown, or the fault that is.
abbrev pub TellsWith : (Found TechKind → Type 0) → (Said → Type 0) → Result Said (Found TechKind) → Type 0
TellsWith shows says (Ok value) = ((found : Found TechKind) → shows found → ⊥) × says value
TellsWith shows says (Err found) = shows found

-- What the last of these words says, of which this is asked, or the fault that it shows.
abbrev pub TellsBy : State → Question → List Token → Result Said (Found TechKind) → Type 0
TellsBy state asked part result = TellsWith (λ found. FaultBy state asked part found) (λ value. SaysBy asked part value) result

-- What a number says that the word after it shows to be used, or its fault, where it has n words before it.
abbrev pub TellsUsed : Quantity → List ℕ → ℕ → Sort → Result Said (Found TechKind) → Type 0
TellsUsed quantity text at sort (Ok value) =
    ((refused : Refused) → IsNumberAt (place_of quantity) text (Err refused) → ⊥) × (value.sort ≡ sort) × IsText quantity text value.number
TellsUsed quantity text at sort (Err found) =
    (refused : Refused) × IsNumberAt (place_of quantity) text (Err refused) × (found ≡ used_found refused at)

-- ## whole units

abbrev pub value_sort : Heard Said → Sort
value_sort heard = heard.value.sort

-- The number that a word says, as the machine keeps it; 0 where there is no word.
abbrev pub number_or : Option (Heard Said) → ℤ
number_or None = pos 0
number_or (Some heard) = to_z w64 (of_z w64 heard.value.number)

-- The number of the word that has n words of its unit before it.
abbrev pub number_at : List (Heard Said) → ℕ → ℤ
number_at unit n = number_or (slice_get unit n)

abbrev pub natural_at : List (Heard Said) → ℕ → ℕ
natural_at unit n = unsigned_abs (number_at unit n)

abbrev pub apart_at : List (Heard Said) → ℕ → ℕ → ℕ
apart_at unit low high = unsigned_abs (number_at unit high -ℤ number_at unit low)

-- The statement with the numbers of a whole unit.
abbrev pub told_by : List (Heard Said) → Saying → Option Statement
told_by unit (Plain statement) = statement
told_by unit (Named make) = Some (make (text_at (map heard_token unit) 1))
told_by unit (Of quantity at make) = Some (make (natural_at unit at))
told_by unit (Alone quantity at make) = Some (make (natural_at unit (suc at)))
told_by unit (OfTwo quantity a b make) = Some (make (natural_at unit a) (natural_at unit b))
told_by unit OfCorners = Some (Extent (apart_at unit 1 3) (apart_at unit 2 4))

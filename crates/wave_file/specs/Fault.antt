-- The faults of a wave file: a step that is none or falls, a name that no group has or that stands again at its step, a
-- number that is refused, a range that falls.
use Rattle.std.specs.Prelude.{◌≡◌, ◌⊎◌, ℕ, ◌<◌, true, ℤ, ◌<ℤ◌, List, [], ◌∷◌, Contains, Option, Some, None, Ok, Err}
use Rattle.wave_file.specs.declared.error.WavesKind.{WavesKind}
use Rattle.wave_file.specs.declared.error.WavesKind.TheVariants as kinds
use Rattle.wave_file.specs.Sort.{sort_of}
use Rattle.wave_file.specs.Rule.{is_number, lines, step_on, name_on}
use Rattle.wave_file.specs.Number.{amperes, IsStep}
use Rattle.number_place.specs.declared.place.Refused.{Refused}
use Rattle.number_place.specs.declared.place.Refused.TheVariants.{Syntax, Number}
use Rattle.number_place.specs.Place.{IsNumberAt}
use Rattle.reading.specs.declared.refusal.Found.{Found}
use Rattle.reading.specs.Word.{Token}

-- The last of these lines, if there is one.
abbrev pub last_line : List (List Token) → Option (List Token)
last_line [] = None
last_line (line ∷ []) = Some line
last_line (line ∷ next ∷ more) = last_line (next ∷ more)

-- The step is below that of the line before.
abbrev pub FallsBelow : List (List Token) → List ℕ → Type 0
FallsBelow units text =
    (k : ℕ) × IsStep text k × (line : List Token) × (last_line (lines units) ≡ Some line)
    × (before : ℕ) × IsStep (step_on line) before × (k < before)

-- The word is no step, or one that falls.
abbrev pub StepFault : List (List Token) → List ℕ → WavesKind → Type 0
StepFault units text kind =
    ((kind ≡ kinds.Syntax) × ((k : ℕ) → ¬ IsStep text k)) ⊎ ((kind ≡ kinds.Falling) × FallsBelow units text)

-- A line before has the same step and the same name.
abbrev pub IsTwice : List (List Token) → List ℕ → List ℕ → Type 0
IsTwice units text name =
    (k : ℕ) × IsStep text k × (line : List Token) × Contains (lines units) line × IsStep (step_on line) k
    × (name_on line ≡ name)

-- No group has the name; or one has it, and the name stands again at this step.
abbrev pub NodeFault : List (List ℕ) → List (List Token) → List ℕ → List ℕ → WavesKind → Type 0
NodeFault names units text name kind =
    ((kind ≡ kinds.UnknownNode) × (¬ Contains names name))
    ⊎ ((kind ≡ kinds.Twice) × Contains names name × IsTwice units text name)

-- The kind of a number that is refused.
abbrev pub refused_kind : Refused → WavesKind
refused_kind Syntax = kinds.Syntax
refused_kind (Number error) = kinds.Number error

-- The text is refused as a current, and so this is its kind.
abbrev pub NumberFault : List ℕ → WavesKind → Type 0
NumberFault text kind = (refused : Refused) × IsNumberAt amperes text (Err refused) × (kind ≡ refused_kind refused)

-- The second number is below the first.
abbrev pub Falls : List ℕ → List ℕ → Type 0
Falls low high = (a : ℤ) × (b : ℤ) × IsNumberAt amperes low (Ok a) × IsNumberAt amperes high (Ok b) × (b <ℤ a)

-- Why the second number of a range is refused. A line may lack it: then the line's end stands in its place.
abbrev pub RangeFault : Token → Token → WavesKind → Type 0
RangeFault low high kind =
    (is_number (sort_of high) ≡ true)
    × (NumberFault high.text kind ⊎ ((kind ≡ kinds.Falling) × Falls low.text high.text))

-- The fault that the last of a line's words so far shows, at that word.
abbrev pub fault : List (List ℕ) → List (List Token) → List Token → Found WavesKind → Type 0
fault names units (first ∷ step ∷ []) found = (found.at ≡ 1) × StepFault units step.text found.kind
fault names units (first ∷ step ∷ name ∷ []) found =
    (found.at ≡ 2) × NodeFault names units step.text name.text found.kind
fault names units (first ∷ step ∷ name ∷ low ∷ []) found = (found.at ≡ 3) × NumberFault low.text found.kind
fault names units (first ∷ step ∷ name ∷ low ∷ high ∷ []) found = (found.at ≡ 4) × RangeFault low high found.kind
fault names units _ found = ⊥

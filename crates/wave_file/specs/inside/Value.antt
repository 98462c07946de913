-- What the words of a line say.
use Rattle.std.specs.Prelude.{◌≡◌, ℕ, ℤ, pos, ◌≤ℤ◌, true, List, [], ◌∷◌, Some, Ok}
use Rattle.wave_file.specs.declared.value.Value.{Value}
use Rattle.wave_file.specs.declared.value.Value.TheVariants.{Step, Node, Amps}
use Rattle.wave_file.specs.Sort.{sort_of}
use Rattle.wave_file.specs.Rule.{is_number}
use Rattle.wave_file.specs.Number.{amperes, IsStep}
use Rattle.name_places.specs.Places.{place_of}
use Rattle.number_place.specs.Place.{IsNumberAt}
use Rattle.reading.specs.Word.{Token}

-- The step, and 0 of another word.
abbrev pub step_of : Value → ℕ
step_of (Step step) = step
step_of _ = 0

-- The group, and 0 of another word.
abbrev pub node_of : Value → ℕ
node_of (Node node) = node
node_of _ = 0

-- Amperes, and 0 of another word.
abbrev pub amps_of : Value → ℤ
amps_of (Amps amps) = amps
amps_of _ = pos 0

-- The value is the step that the text stands for.
abbrev pub SaysStep : List ℕ → Value → Type 0
SaysStep text value = IsStep text (step_of value)

-- The value is the group of this name.
abbrev pub SaysNode : List (List ℕ) → List ℕ → Value → Type 0
SaysNode names name value = place_of names name ≡ Some (node_of value)

-- The value is the current that the text stands for.
abbrev pub SaysAmps : List ℕ → Value → Type 0
SaysAmps text value = IsNumberAt amperes text (Ok (amps_of value))

-- The second number of a range is not below the first. The line's end in its place says nothing.
abbrev pub SaysHigh : Token → Token → Value → Type 0
SaysHigh low high value = is_number (sort_of high) ≡ true → SaysAmps high.text value
    × ((least : ℤ) → IsNumberAt amperes low.text (Ok least) → least ≤ℤ amps_of value)

-- What the last of a line's words so far says.
abbrev pub says : List (List ℕ) → List Token → Value → Type 0
says names (first ∷ step ∷ []) value = SaysStep step.text value
says names (first ∷ step ∷ name ∷ []) value = SaysNode names name.text value
says names (first ∷ step ∷ name ∷ low ∷ []) value = SaysAmps low.text value
says names (first ∷ step ∷ name ∷ low ∷ high ∷ []) value = SaysHigh low high value
says names _ value = Unit {0}

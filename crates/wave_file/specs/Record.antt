-- What the lines of a wave file say.
use Rattle.std.specs.Prelude.{◌≡◌, ℕ, ◌≤ℤ◌, List, [], ◌∷◌, Some, Ok}
use Rattle.wave_file.specs.declared.record.Change.{Change}
use Rattle.wave_file.specs.declared.record.Waves.{Waves}
use Rattle.wave_file.specs.Rule.{lines}
use Rattle.wave_file.specs.Number.{amperes, IsStep}
use Rattle.entry_list.specs.InTurn.{InTurn}
use Rattle.name_places.specs.Places.{place_of}
use Rattle.number_place.specs.Place.{IsNumberAt}
use Rattle.reading.specs.Word.{Token}

-- These words say the change: its step, the group of this name, and the two ends of its range.
abbrev pub SaysRange : List (List ℕ) → List ℕ → List ℕ → List ℕ → List ℕ → Change → Type 0
SaysRange names step name low high change =
    IsStep step change.step × (place_of names name ≡ Some change.node)
    × IsNumberAt amperes low (Ok change.low) × IsNumberAt amperes high (Ok change.high)
    × (change.low ≤ℤ change.high)

-- `at STEP NODE LOW HIGH`: from the step on the load of the group is this range. A line with one number gives both ends.
abbrev pub SaysChange : List (List ℕ) → List Token → Change → Type 0
SaysChange names (first ∷ step ∷ name ∷ value ∷ stop ∷ []) =
    SaysRange names step.text name.text value.text value.text
SaysChange names (first ∷ step ∷ name ∷ low ∷ high ∷ stop ∷ []) =
    SaysRange names step.text name.text low.text high.text
SaysChange names _ = λ change. ⊥

-- The record of the lines: what they say, in their order.
abbrev pub IsWaves : List (List ℕ) → List (List Token) → Waves → Type 0
IsWaves names units waves = InTurn (SaysChange names) (lines units) waves.changes

-- What the reader holds after whole lines.
use Rattle.std.specs.Prelude.{◌≡◌, true, false, ℕ, ◌≤◌, List, [], ◌∷◌, ◌++◌, map, AllPairs, Option, None, Some}
use Rattle.entry_list.specs.InTurn.{InTurn}
use Rattle.reading.specs.Grammar.{AreHeard, IsTaken}
use Rattle.reading.specs.Word.{Token, heard_token}
use Rattle.reading.specs.declared.word.Heard.{Heard}
use Rattle.wave_file.specs.declared.held.Held.{Held}
use Rattle.wave_file.specs.declared.record.Change.{Change}
use Rattle.wave_file.specs.declared.spots.Spot.{Spot}
use Rattle.wave_file.specs.Rule.{is_line, lines}
use Rattle.wave_file.specs.Record.{SaysChange}
use Rattle.wave_file.specs.Format.{format}
use Rattle.wave_file.specs.declared.value.Value.{Value}
use Rattle.wave_file.specs.inside.Value.{says}

-- Where a change stands.
abbrev pub spot_of : Change → Spot
spot_of change = record { step = change.step; node = change.node }

-- The names of the groups, what the lines say, in steps that do not fall, and where.
pub record Holds (names : List (List ℕ)) (units : List (List Token)) (held : Held) : Type 0 where
  pub groups : held.groups.names ≡ names
  pub changes : InTurn (SaysChange names) (lines units) held.changes.items
  pub steps : AllPairs (λ a b. a.step ≤ b.step) held.changes.items
  pub spots : held.spots ≡ map spot_of held.changes.items

-- What a unit that is taken says if it is a line; else nothing.
abbrev pub FindsChange : List (List ℕ) → List Token → Option Change → Type 0
FindsChange names unit None = is_line unit ≡ false
FindsChange names unit (Some change) = (is_line unit ≡ true)
    × ((units : List (List Token)) → IsTaken (format names) units unit → SaysChange names unit change)

-- What was held after some units leads to what is held after one more, which has shown no fault and whose words have
-- said their values.
abbrev pub Takes : Held → Held → List (Heard Value) → Type 0
Takes old new unit = (names : List (List ℕ)) (units : List (List Token)) → Holds names units old →
    IsTaken (format names) units (map heard_token unit) → AreHeard (says names) [] unit →
    Holds names (units ++ map heard_token unit ∷ []) new

-- The fields of records, from the values of options.
use Rattle.std.specs.Prelude.{◌≡◌, ℕ, List, Option, None, Some, codes, if◌then◌else◌}
use Rattle.std.specs.Str.{bytes_eq}
use Rattle.entry_list.specs.InTurn.{InTurn}
use Rattle.pdn_script.specs.declared.record.Start.{Start}
use Rattle.pdn_script.specs.declared.record.Start.TheVariants.{Power, Ground}
use Rattle.pdn_script.specs.Known.{or_empty}
use Rattle.script_options.specs.declared.number.Quantity.{Quantity}
use Rattle.script_options.specs.declared.number.Quantity.TheVariants.{Length}
use Rattle.script_options.specs.ListWords.{words_of}
use Rattle.script_options.specs.Number.{IsNumberIn}

-- `POWER` or `GROUND`.
abbrev pub start_of : List ℕ → Start
start_of text = if bytes_eq text (codes "POWER") then Power else Ground

abbrev pub maybe_start : Option (List ℕ) → Option Start
maybe_start None = None
maybe_start (Some text) = Some (start_of text)

-- Absent, it is the ground.
abbrev pub start_or_ground : Option (List ℕ) → Start
start_or_ground None = Ground
start_or_ground (Some text) = start_of text

-- The words of the list.
abbrev pub IsNames : Option (List ℕ) → List (List ℕ) → Type 0
IsNames value names = names ≡ words_of (or_empty value)

abbrev pub maybe_names : Option (List ℕ) → Option (List (List ℕ))
maybe_names None = None
maybe_names (Some text) = Some (words_of text)

abbrev pub IsMaybeNames : Option (List ℕ) → Option (List (List ℕ)) → Type 0
IsMaybeNames value names = names ≡ maybe_names value

-- The number that the value stands for.
abbrev pub IsNumber : Quantity → Option (List ℕ) → ℕ → Type 0
IsNumber quantity value number = IsNumberIn quantity (or_empty value) number

abbrev pub IsMaybeNumber : Quantity → Option (List ℕ) → Option ℕ → Type 0
IsMaybeNumber quantity None None = Unit {0}
IsMaybeNumber quantity (Some text) (Some number) = IsNumberIn quantity text number
IsMaybeNumber quantity _ _ = ⊥

-- Absent, it is 0.
abbrev pub IsNumberOrZero : Option (List ℕ) → ℕ → Type 0
IsNumberOrZero None number = number ≡ 0
IsNumberOrZero (Some text) number = IsNumberIn Length text number

-- The numbers that the words of the list stand for.
abbrev pub AreNumbers : Quantity → Option (List ℕ) → List ℕ → Type 0
AreNumbers quantity value numbers = InTurn (IsNumberIn quantity) (words_of (or_empty value)) numbers

abbrev pub AreMaybeNumbers : Option (List ℕ) → Option (List ℕ) → Type 0
AreMaybeNumbers None None = Unit {0}
AreMaybeNumbers (Some text) (Some numbers) = InTurn (IsNumberIn Length) (words_of text) numbers
AreMaybeNumbers _ _ = ⊥

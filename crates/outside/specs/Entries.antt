-- Values by name. A name is a list of bytes.
use Rattle.std.specs.Prelude.{◌≡◌, ◌≢◌, ℕ, List, [], ◌∷◌, bytes_eq, if◌then◌else◌, Option, Some, None}

-- Of a list of entries, each a name and a value, the value of the first entry with a name.
abbrev pub value_under : {V : Type 0} → List (List ℕ × V) → List ℕ → Option V
value_under [] name = None
value_under (entry ∷ entries) name =
    (if bytes_eq entry.0 name then Some entry.1 else value_under entries name)

-- A value is put under a name, and under each other name stays what was there.
pub record Assigns {V : Type 0} (name : List ℕ) (value : V) (old new : List ℕ → V) : Type 0 where
  pub named : new name ≡ value
  pub others : (other : List ℕ) → other ≢ name → new other ≡ old other

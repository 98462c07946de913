-- What a sink was given.
use Rattle.std.specs.Prelude.{◌≡◌, ℕ, List, ◌++◌, take}

-- These bytes were added to those written before.
abbrev pub Adds : List ℕ → List ℕ → List ℕ → Type 0
Adds bytes old new = new ≡ old ++ bytes

-- The first bytes of these, perhaps none or all, were added to those written before.
abbrev pub AddsSome : List ℕ → List ℕ → List ℕ → Type 0
AddsSome bytes old new = (n : ℕ) × Adds (take n bytes) old new

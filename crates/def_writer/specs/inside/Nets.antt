-- What is left of the entries of nets, inside this crate.
use Rattle.std.specs.Prelude.{ℕ, nat_le, List, filter}

-- The entries of the net of this number and of those after it.
abbrev pub later : {X : Type 0} → (X → ℕ) → ℕ → List X → List X
later net_of net xs = filter (λ x. nat_le net (net_of x)) xs

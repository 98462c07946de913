-- The parts of a written card, inside this crate.
use Rattle.std.specs.Prelude.{ℕ, List, [], ◌∷◌, ◌++◌, decimal}

-- What stands on a card before its value: three words, each with a blank after it.
abbrev pub card_head : ℕ → ℕ → List ℕ → List ℕ → List ℕ
card_head letter number from to = letter ∷ (decimal number ++ 32 ∷ (from ++ 32 ∷ (to ++ 32 ∷ [])))

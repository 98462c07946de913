-- Searches for the first answer.
use Rattle.std.specs.Prelude.{ℕ, zero, suc, List, [], ◌∷◌, Option, Some, None}

-- The first answer if there is one, and else the second.
abbrev pub or_else : {X : Type 0} → Option X → Option X → Option X
or_else None second = second
or_else (Some x) second = Some x

-- The first answer that a test gives of 0, 1 .. n - 1.
abbrev pub first_below : {X : Type 0} → ℕ → (ℕ → Option X) → Option X
first_below zero test = None
first_below (suc n) test = or_else (first_below n test) (test n)

-- The first answer that a test gives of a list's entries.
abbrev pub first_of : {X Y : Type 0} → (X → Option Y) → List X → Option Y
first_of test [] = None
first_of test (x ∷ xs) = or_else (test x) (first_of test xs)

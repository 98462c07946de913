-- What is left of a pattern after a word.
use Rattle.reading.specs.Pattern.{Pattern, Never, Empty, Then, Or, One, Many}
use Rattle.std.specs.Prelude.{cond, List, [], ◌∷◌}
use Rattle.reading.specs.Tests.{skips}

-- The first, then the second.
abbrev pub seq : {S : Type 0} → Pattern S → Pattern S → Pattern S
seq Never q = Never
seq Empty q = q
seq p q = Then p q

-- The first or the second.
abbrev pub alt : {S : Type 0} → Pattern S → Pattern S → Pattern S
alt Never q = q
alt p Never = p
alt p q = Or p q

-- What is left after a word of the sort.
abbrev pub left : {S : Type 0} → S → Pattern S → Pattern S
left s Never = Never
left s Empty = Never
left s (One class) = cond (class s) Empty Never
left s (Then p q) = cond (skips p) (alt (seq (left s p) q) (left s q)) (seq (left s p) q)
left s (Or p q) = alt (left s p) (left s q)
left s (Many p) = seq (left s p) (Many p)

-- What is left after words.
abbrev pub lefts : {W S : Type 0} → (W → S) → Pattern S → List W → Pattern S
lefts sort p [] = p
lefts sort p (w ∷ ws) = lefts sort (left (sort w) p) ws

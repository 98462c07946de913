use Rattle.std.proofs.Common.{◌≡◌, ℕ, ◌<◌, List, get_or}
use Rattle.extraction_tests.proofs.grid_taps_tests.are_distinct.Given as goal

abbrev pub invariant-loop-k : goal.invariant-loop-k
invariant-loop-k l = (i j : ℕ) (d : List ℕ) → i < j → j < l.k → get_or l.names i d ≡ get_or l.names j d → ⊥

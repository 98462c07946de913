use Rattle.std.proofs.Common.{◌≡◌, ℕ, ◌<◌, List, get_or}
use Rattle.extraction_tests.proofs.grid_extract_tests.is_new.Given as goal

abbrev pub invariant-loop-j : goal.invariant-loop-j
invariant-loop-j l = (i : ℕ) (d : List ℕ) → i < l.j → get_or l.names i d ≡ get_or l.names l.k d → ⊥

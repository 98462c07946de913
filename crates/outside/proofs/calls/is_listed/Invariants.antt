use Rattle.std.proofs.Common.{◌≢◌, ℕ, ◌<◌, List, get_or}
use Rattle.outside.proofs.calls.is_listed.Given as goal

abbrev pub invariant-loop-call : goal.invariant-loop-call
invariant-loop-call l = (k : ℕ) (call : List ℕ × ℕ) → k < l.call-index → get_or l.listed k call ≢ (l.name, l.number)

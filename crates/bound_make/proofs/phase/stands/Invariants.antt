use Rattle.std.proofs.Common.{ℕ, ◌<◌}
use Rattle.bound_make.specs.inside.Half.{seen}
use Rattle.bound_make.specs.inside.Moving.{IsFull, IsTrim}
use Rattle.bound_make.proofs.phase.stands.Given as goal

abbrev pub invariant-loop-node : goal.invariant-loop-node
invariant-loop-node l = record {
  full : (i : ℕ) → i < l.node → IsFull (seen l.half l.net) l.x i;
  trim : (i : ℕ) → i < l.node → IsTrim (seen l.half l.net) l.x i;
}

use Rattle.std.proofs.Common.{◌≡◌, ◌⊎◌, ℕ, ◌<◌, ◌≤◌}
use Rattle.grid_net.specs.Level.{IsLevel}
use Rattle.bound_make.proofs.certifier.greatest_level.Given as goal

abbrev pub invariant-loop-node : goal.invariant-loop-node
invariant-loop-node l = record {
  each : (i : ℕ) → i < l.node → (m : ℕ) × (m ≤ l.greatest) × IsLevel l.net i m;
  met : ((l.node ≡ 0) × (l.greatest ≡ 0)) ⊎ ((i : ℕ) × (i < l.node) × IsLevel l.net i l.greatest);
}

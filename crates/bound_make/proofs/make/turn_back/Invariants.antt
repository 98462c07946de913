use Rattle.std.proofs.Common.{◌≡◌, ℕ, ◌<◌, ◌≤◌, length}
use Rattle.grid_net.specs.Network.{entry_of}
use Rattle.bound_make.specs.inside.Half.{seen_volts}
use Rattle.bound_make.proofs.make.turn_back.Given as goal

abbrev pub invariant-loop-entry : goal.invariant-loop-entry
invariant-loop-entry l = record {
  size : length l.x ≡ length l.initial.x;
  done : (i : ℕ) → i < l.entry-index → entry_of l.x i ≡ seen_volts l.half (entry_of l.initial.x i);
  left : (i : ℕ) → l.entry-index ≤ i → entry_of l.x i ≡ entry_of l.initial.x i;
}

use Rattle.std.proofs.Common.{◌≡◌, ℕ, ◌<◌, ◌≤◌, length, unsigned_abs}
use Rattle.grid_net.specs.Network.{entry_of, pad_at}
use Rattle.bound_make.specs.inside.Half.{seen_volts}
use Rattle.bound_make.specs.Certifier.{start_value}
use Rattle.bound_make.proofs.make.make_start.Given as goal

abbrev pub invariant-loop-entry : goal.invariant-loop-entry
invariant-loop-entry l = record {
  counted : l.node ≡ l.entry-index;
  size : length l.x ≡ length l.initial.x;
  done : (i : ℕ) → i < l.entry-index → entry_of l.x i ≡ seen_volts l.half (start_value l.scale.bottom l.scale.top (unsigned_abs l.scale.width) (entry_of l.initial.x i) (pad_at l.net i));
  left : (i : ℕ) → l.entry-index ≤ i → entry_of l.x i ≡ entry_of l.initial.x i;
}

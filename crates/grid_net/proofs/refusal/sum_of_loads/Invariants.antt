use Rattle.std.proofs.Common.{◌≡◌, ◌*◌, ◌^◌, ◌≤ℤ◌, take, pos}
use Rattle.grid_net.specs.Adding.{given_load}
use Rattle.grid_net.proofs.refusal.sum_of_loads.Given as goal

abbrev pub invariant-loop-load : goal.invariant-loop-load
invariant-loop-load l = record {
  so_far : l.sum ≡ pos (given_load (take l.load-index l.loads));
  at_most : l.sum ≤ℤ pos (l.load-index * 2 ^ 63);
}

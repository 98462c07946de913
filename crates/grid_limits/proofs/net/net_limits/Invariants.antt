use Rattle.std.proofs.Common.{◌≡◌, map, take}
use Rattle.grid_limits.specs.Limits.{net_limit}
use Rattle.grid_limits.proofs.net.net_limits.Given as goal

abbrev pub invariant-loop-net : goal.invariant-loop-net
invariant-loop-net l = l.limits.items ≡ map (net_limit l.bias) (take l.net-index l.grid.nets)

use Rattle.std.proofs.Common.{◌≡◌, ◌*◌, ◌^◌, ◌<◌}
use Rattle.grid_network.specs.inside.Steps.{front_of}
use Rattle.grid_network.proofs.named.front_of.Given as goal

abbrev pub invariant-loop-place : goal.invariant-loop-place
invariant-loop-place l = (l.front ≡ front_of l.name l.place) × (l.front < 2 ^ (8 * l.place))

use Rattle.std.proofs.Common.{◌≡◌, map}
use Rattle.std.specs.List.{range_with_len}
use Rattle.group_net.specs.inside.Loads.{load_at}
use Rattle.group_net.proofs.moved.loads_of_groups.Given as goal

abbrev pub invariant-loop-node : goal.invariant-loop-node
invariant-loop-node l = l.moved.items ≡ map (load_at l.loads l.group) (range_with_len 0 l.node)

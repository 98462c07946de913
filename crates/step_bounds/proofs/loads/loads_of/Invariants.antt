use Rattle.std.proofs.Common.{◌≡◌, map}
use Rattle.std.specs.List.{range_with_len}
use Rattle.grid_net.specs.Network.{load_range}
use Rattle.step_bounds.specs.Changes.{load_entry}
use Rattle.step_bounds.proofs.loads.loads_of.Given as goal

abbrev pub invariant-loop-node : goal.invariant-loop-node
invariant-loop-node l = l.loads.items ≡ map (load_entry (load_range l.net)) (range_with_len 0 l.node)

use Rattle.std.proofs.Common.{◌≡◌, map, take, All}
use Rattle.std.specs.List.{range_with_len}
use Rattle.grid_network.specs.inside.Steps.{numbered_name, IsShort}
use Rattle.grid_network.proofs.named.names.Given as goal

abbrev pub invariant-loop-number : goal.invariant-loop-number
invariant-loop-number l = (l.names.items ≡ map (numbered_name l.layers l.keys) (range_with_len 0 l.number)) × All IsShort (take l.number l.keys)

-- A network without shorts and capacitors as the network of its groups.
use Rattle.std.specs.Prelude.{ℕ, List, []}
use Rattle.std.specs.List.{range_with_len}
use Rattle.grid_net.specs.Network.{Network}
use Rattle.short_merge.specs.declared.merged.Merged.{Merged}

-- Each node is a group by itself, with its own name and number.
abbrev pub unmerged : Network → List (List ℕ) → Merged
unmerged net names = record { net = net; names = names; group = range_with_len 0 net.nodes; caps = [] }

use Rattle.std.proofs.Common.{◌≡◌, map, take}
use Rattle.grid_network.specs.inside.Steps.{place_of}
use Rattle.grid_network.proofs.numbered_names.keys_of.Given as goal

abbrev pub invariant-loop-one : goal.invariant-loop-one
invariant-loop-one l = l.keys.items ≡ map (λ n. place_of l.places n.number) (take l.one-index l.named)

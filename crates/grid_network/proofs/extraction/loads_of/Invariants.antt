use Rattle.std.proofs.Common.{◌≡◌, List, map, take}
use Rattle.grid_network.specs.declared.key.Key.{Key}
use Rattle.grid_network.specs.Drawing.{key_at}
use Rattle.grid_network.specs.Nodes.{number_of}
use Rattle.grid_network.specs.inside.Steps.{TellsNumbers}
use Rattle.grid_network.proofs.extraction.loads_of.Given as goal

abbrev pub invariant-loop-at : goal.invariant-loop-at
invariant-loop-at l = (keys : List Key) → TellsNumbers keys l.nodes.places.now l.nodes.numbers.now → l.standing.items ≡ map (λ p. record { node = number_of keys (key_at l.pieces p.piece p.along); low = p.low; high = p.high }) (take l.at l.taps)

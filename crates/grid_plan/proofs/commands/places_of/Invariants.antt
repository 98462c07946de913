use Rattle.std.proofs.Common.{◌≡◌, map, take}
use Rattle.grid_plan.specs.Names.{place_in}
use Rattle.grid_plan.proofs.commands.places_of.Given as goal

abbrev pub invariant-loop-net : goal.invariant-loop-net
invariant-loop-net l = l.places.items ≡ map (place_in l.nets) (take l.net-index l.stated)

use Rattle.std.proofs.Common.{◌≡◌, map, take}
use Rattle.std.specs.Option.{is_some}
use Rattle.name_places.specs.Places.{place_of}
use Rattle.grid_plan.proofs.nets.among.Given as goal

abbrev pub invariant-loop-name : goal.invariant-loop-name
invariant-loop-name l = l.found.items ≡ map (λ n. is_some (place_of l.table n.now)) (take l.name-index l.names)

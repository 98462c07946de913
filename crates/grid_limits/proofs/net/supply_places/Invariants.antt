use Rattle.std.proofs.Common.{◌≡◌, map, take}
use Rattle.bias_file.specs.declared.record.Supply.{Supply}
use Rattle.grid_limits.proofs.net.supply_places.Given as goal

abbrev pub invariant-loop-supply : goal.invariant-loop-supply
invariant-loop-supply l = map (λ name. name.now) l.names.items ≡ map (λ (s : Supply). s.net) (take l.supply-index l.supplies)

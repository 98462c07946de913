use Rattle.std.proofs.Common.{◌≡◌, map, take}
use Rattle.bias_file.specs.declared.record.DropLimit.{DropLimit}
use Rattle.grid_limits.proofs.net.drop_places.Given as goal

abbrev pub invariant-loop-drop : goal.invariant-loop-drop
invariant-loop-drop l = map (λ name. name.now) l.names.items ≡ map (λ (s : DropLimit). s.net) (take l.drop-index l.drops)

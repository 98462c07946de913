use Rattle.std.proofs.Common.{◌≡◌, take, map}
use Rattle.def_wiring.specs.Limits.{via_name}
use Rattle.wire_names.proofs.tables.vias.Given as goal

abbrev pub invariant-loop-via : goal.invariant-loop-via
invariant-loop-via l = map (λ n. n.now) l.names.items ≡ map via_name (take l.via-index l.wires.vias)

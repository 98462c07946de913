use Rattle.std.proofs.Common.{◌≡◌, take, map, length, All}
use Rattle.wire_names.specs.Keeping.{ViaStands}
use Rattle.wire_names.specs.Wiring.{via_of}
use Rattle.wire_names.specs.inside.Tables.{names_in}
use Rattle.wire_names.proofs.via.vias.Given as goal

abbrev pub invariant-loop-via : goal.invariant-loop-via
invariant-loop-via l = (l.named.items ≡ map (via_of (names_in l.tables)) (take l.via-index l.vias)) × All (ViaStands (length l.tables.layers) (length l.tables.cuts) (length l.tables.rules)) l.named.items

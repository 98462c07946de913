use Rattle.std.proofs.Common.{◌≡◌, take, length, All}
use Rattle.std.specs.List.{flat_map}
use Rattle.wire_names.specs.Keeping.{SpotStands}
use Rattle.wire_names.specs.Wiring.{spots_of}
use Rattle.wire_names.specs.inside.Tables.{names_in}
use Rattle.wire_names.proofs.spot.spots.Given as goal

abbrev pub invariant-loop-net : goal.invariant-loop-net
invariant-loop-net l = (l.spots.items ≡ flat_map (spots_of (names_in l.tables) l.power_first) (take l.net-index l.nets)) × All (SpotStands (length l.tables.vias)) l.spots.items

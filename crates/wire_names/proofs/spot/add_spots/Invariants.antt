use Rattle.std.proofs.Common.{◌≡◌, take, map, length, ◌++◌, All}
use Rattle.wire_names.specs.Keeping.{SpotStands}
use Rattle.wire_names.specs.Wiring.{spot_of}
use Rattle.wire_names.specs.inside.Tables.{names_in}
use Rattle.wire_names.proofs.spot.add_spots.Given as goal

abbrev pub invariant-loop-place : goal.invariant-loop-place
invariant-loop-place l = (l.spots.items ≡ l.initial.spots.items ++ map (spot_of (names_in l.tables) l.net) (take l.place-index l.places)) × All (SpotStands (length l.tables.vias)) l.spots.items

use Rattle.std.proofs.Common.{◌≡◌, take, length, All}
use Rattle.std.specs.List.{flat_map}
use Rattle.wire_names.specs.Keeping.{ShapeStands}
use Rattle.wire_names.specs.Wiring.{shapes_of}
use Rattle.wire_names.specs.inside.Tables.{names_in}
use Rattle.wire_names.proofs.segment.shapes.Given as goal

abbrev pub invariant-loop-net : goal.invariant-loop-net
invariant-loop-net l = (l.shapes.items ≡ flat_map (shapes_of (names_in l.tables) l.power_first) (take l.net-index l.nets)) × All (ShapeStands (length l.tables.layers)) l.shapes.items

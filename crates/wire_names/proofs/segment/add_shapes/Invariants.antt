use Rattle.std.proofs.Common.{◌≡◌, take, map, length, ◌++◌, All}
use Rattle.wire_names.specs.Keeping.{ShapeStands}
use Rattle.wire_names.specs.Wiring.{shape_of}
use Rattle.wire_names.specs.inside.Tables.{names_in}
use Rattle.wire_names.proofs.segment.add_shapes.Given as goal

abbrev pub invariant-loop-segment : goal.invariant-loop-segment
invariant-loop-segment l = (l.shapes.items ≡ l.initial.shapes.items ++ map (shape_of (names_in l.tables) l.net) (take l.segment-index l.segments)) × All (ShapeStands (length l.tables.layers)) l.shapes.items

use Rattle.std.proofs.Common.{◌≡◌, filter, take}
use Rattle.wire_pieces.specs.inside.Axes.{goes_along}
use Rattle.wire_pieces.proofs.axis.shapes_along.Given as goal

abbrev pub invariant-loop-shape : goal.invariant-loop-shape
invariant-loop-shape l = l.some.items ≡ filter (goes_along l.upright) (take l.shape-index l.shapes)

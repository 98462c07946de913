use Rattle.std.proofs.Common.{take}
use Rattle.pin_pieces.specs.inside.Steps.{Adds, OfAny, IsOnShape}
use Rattle.pin_pieces.proofs.finding.add_shapes.Given as goal

abbrev pub invariant-loop-shape : goal.invariant-loop-shape
invariant-loop-shape l = Adds (OfAny (IsOnShape l.component l.pieces) (take l.shape-index l.shapes)) l.fn.pins.items l.pins.items

use Rattle.std.proofs.Common.{take}
use Rattle.pin_pieces.specs.inside.Steps.{Adds, OfAny}
use Rattle.pin_pieces.proofs.Touching.{Gives}
use Rattle.pin_pieces.proofs.finding.add_found.Given as goal

abbrev pub invariant-loop-number : goal.invariant-loop-number
invariant-loop-number l = Adds (OfAny (Gives l.component l.pieces l.shape) (take l.number-index l.found)) l.fn.pins.items l.pins.items

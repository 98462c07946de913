-- The pad on the pieces before the next one.
use Rattle.std.proofs.Common.{take}
use Rattle.grid_taps.specs.inside.Standing.{StandsWith}
use Rattle.grid_taps.proofs.OnPieces.{AreOnUpTo}
use Rattle.grid_taps.proofs.on_piece.on_layer.Given as goal

abbrev pub invariant-loop-number : goal.invariant-loop-number
invariant-loop-number l = AreOnUpTo (StandsWith l.grid l.tech l.pad l.volts) (take l.number-index l.found) l.on.items

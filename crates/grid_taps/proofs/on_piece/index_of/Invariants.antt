use Rattle.std.proofs.Common.{take}
use Rattle.grid_taps.specs.inside.Steps.{ArePieceEntries}
use Rattle.grid_taps.proofs.on_piece.index_of.Given as goal

abbrev pub invariant-loop-number : goal.invariant-loop-number
invariant-loop-number l = ArePieceEntries (take l.number l.pieces) l.entries.items

use Rattle.std.proofs.Common.{take}
use Rattle.grid_pieces.specs.inside.Cutting.{AreMadeOf}
use Rattle.grid_pieces.proofs.line_cut.on_line.Given as goal

abbrev pub invariant-loop-run : goal.invariant-loop-run
invariant-loop-run l = AreMadeOf l.line (take l.run-index l.whole) l.rings l.stripes l.pieces.items

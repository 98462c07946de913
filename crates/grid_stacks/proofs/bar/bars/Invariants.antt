use Rattle.grid_stacks.specs.inside.Bar.{AreBarsTo}
use Rattle.grid_stacks.proofs.bar.bars.Given as goal

abbrev pub invariant-loop-piece : goal.invariant-loop-piece
invariant-loop-piece l = AreBarsTo l.connect l.axis l.pieces l.piece-index l.bars.items

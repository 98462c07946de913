use Rattle.pin_pieces.specs.inside.Steps.{ListsAll}
use Rattle.pin_pieces.proofs.Indexed.{IsBelow}
use Rattle.pin_pieces.proofs.found.index_of.Given as goal

abbrev pub invariant-loop-number : goal.invariant-loop-number
invariant-loop-number l = ListsAll (IsBelow l.pieces l.number) l.entries.items

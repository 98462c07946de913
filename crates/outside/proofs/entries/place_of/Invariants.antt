use Rattle.outside.specs.inside.Entries.{OthersBelow}
use Rattle.outside.proofs.entries.place_of.Given as goal

abbrev pub invariant-loop-place : goal.invariant-loop-place
invariant-loop-place g l = OthersBelow l.entries l.name l.place

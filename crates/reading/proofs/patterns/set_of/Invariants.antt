use Rattle.std.proofs.Common.{take}
use Rattle.reading.specs.inside.Patterns.{IsSet}
use Rattle.reading.specs.Rule.{listed_in}
use Rattle.reading.proofs.patterns.set_of.Given as goal

abbrev pub invariant-loop-sort : goal.invariant-loop-sort
invariant-loop-sort g l = IsSet g.S.Numbered.number l.set (listed_in g.S.Numbered.number (take l.sort-index l.sorts))

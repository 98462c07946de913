use Rattle.reading.proofs.patterns.Patterns.+left.Given as goal

abbrev pub decreases-left : goal.decreases-left
decreases-left g l = l.at

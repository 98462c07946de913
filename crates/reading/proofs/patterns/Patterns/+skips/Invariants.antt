use Rattle.reading.proofs.patterns.Patterns.+skips.Given as goal

abbrev pub decreases-skips : goal.decreases-skips
decreases-skips g l = l.at

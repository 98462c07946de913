use Rattle.short_merge.specs.inside.Kept.{AreKept}
use Rattle.short_merge.proofs.names.names_of_groups.Given as goal

abbrev pub invariant-loop-group : goal.invariant-loop-group
invariant-loop-group l = AreKept l.initial.kept.items l.kept.items l.firsts l.group

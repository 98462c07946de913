use Rattle.grid_stacks.specs.Stacking.{AreStacksTo}
use Rattle.grid_stacks.proofs.stacking.stacks_at.Given as goal

abbrev pub invariant-loop-site : goal.invariant-loop-site
invariant-loop-site l = AreStacksTo l.tech l.units l.sites l.site-index l.stacks.items

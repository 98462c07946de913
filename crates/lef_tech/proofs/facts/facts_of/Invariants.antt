use Rattle.std.proofs.Common.{◌≡◌, ◌≤◌, length, drop}
use Rattle.lef_tech.specs.Record.{facts_of}
use Rattle.lef_tech.proofs.facts.facts_of.Given as goal

abbrev pub invariant-loop-left : goal.invariant-loop-left
invariant-loop-left l = record { within : l.left ≤ length l.body; is : l.facts ≡ facts_of (drop l.left l.body) }

abbrev pub decreases-loop-left : goal.decreases-loop-left
decreases-loop-left l = l.left

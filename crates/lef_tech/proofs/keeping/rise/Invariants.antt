use Rattle.std.proofs.Common.{◌≤◌, ◌-◌, length, take}
use Rattle.lef_tech.specs.Limits.{Rise}
use Rattle.lef_tech.proofs.keeping.rise.Given as goal

abbrev pub invariant-loop-count : goal.invariant-loop-count
invariant-loop-count l = record { some : 1 ≤ l.count; rise : Rise (take l.count l.points) }

abbrev pub decreases-loop-count : goal.decreases-loop-count
decreases-loop-count l = length l.initial.points - l.count

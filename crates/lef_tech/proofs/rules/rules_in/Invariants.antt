use Rattle.std.proofs.Common.{◌≡◌, ◌++◌, drop}
use Rattle.lef_tech.specs.Record.{rules_of}
use Rattle.lef_tech.proofs.rules.rules_in.Given as goal

abbrev pub invariant-loop-place : goal.invariant-loop-place
invariant-loop-place l = l.rules.items ++ rules_of (drop l.place l.statements) ≡ rules_of l.statements

use Rattle.std.proofs.Common.{◌≡◌, ◌++◌, drop}
use Rattle.lef_tech.specs.Record.{parts_of}
use Rattle.lef_tech.proofs.facts.parts_of.Given as goal

abbrev pub invariant-loop-place : goal.invariant-loop-place
invariant-loop-place l = l.parts.items ++ parts_of (drop l.place l.statements) ≡ parts_of l.statements

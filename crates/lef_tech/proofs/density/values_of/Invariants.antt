use Rattle.std.proofs.Common.{◌≡◌, ◌++◌, drop}
use Rattle.lef_tech.specs.Record.{values_of}
use Rattle.lef_tech.proofs.density.values_of.Given as goal

abbrev pub invariant-loop-statement : goal.invariant-loop-statement
invariant-loop-statement l = l.values.items ++ values_of (drop l.statement-index l.statements) ≡ values_of l.statements

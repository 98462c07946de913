use Rattle.std.proofs.Common.{◌≡◌, ◌∷◌, ◌++◌, drop}
use Rattle.lef_tech.specs.Record.{points_of}
use Rattle.lef_tech.proofs.density.points_of.Given as goal

abbrev pub invariant-loop-statement : goal.invariant-loop-statement
invariant-loop-statement l = l.points.items ++ points_of (drop l.statement-index l.statements) ≡ l.first ∷ points_of l.statements

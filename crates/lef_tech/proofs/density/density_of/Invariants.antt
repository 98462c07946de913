use Rattle.std.proofs.Common.{◌≡◌, drop}
use Rattle.lef_tech.specs.Record.{density_of}
use Rattle.lef_tech.proofs.density.density_of.Given as goal

abbrev pub invariant-loop-place : goal.invariant-loop-place
invariant-loop-place l = density_of (drop l.place l.body) ≡ density_of l.body

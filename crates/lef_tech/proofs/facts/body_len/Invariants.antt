use Rattle.std.proofs.Common.{◌≡◌, ◌++◌, take, drop}
use Rattle.lef_tech.specs.Record.{body_of}
use Rattle.lef_tech.proofs.facts.body_len.Given as goal

abbrev pub invariant-loop-place : goal.invariant-loop-place
invariant-loop-place l = take l.place l.statements ++ body_of (drop l.place l.statements) ≡ body_of l.statements

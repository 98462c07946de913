use Rattle.std.proofs.Common.{drop}
use Rattle.lef_tech.specs.Record.{layers_of}
use Rattle.lef_tech.specs.inside.Stack.{IsStackTo}
use Rattle.lef_tech.proofs.stack.stack_of.Given as goal

abbrev pub invariant-loop-place : goal.invariant-loop-place
invariant-loop-place l = IsStackTo (layers_of l.statements) (layers_of (drop l.place l.statements)) l.stack

use Rattle.std.proofs.Common.{◌≡◌, ◌++◌, map, take}
use Rattle.grid_cores.specs.Line.{over_run}
use Rattle.grid_cores.proofs.line.add_line.Given as goal

abbrev pub invariant-loop-run : goal.invariant-loop-run
invariant-loop-run l = l.shapes.items ≡ l.fn.shapes.items ++ map (over_run l.line) (take l.run-index l.run-items)

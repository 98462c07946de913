use Rattle.std.proofs.Common.{take}
use Rattle.grid_cores.specs.Line.{AddsLines}
use Rattle.grid_cores.proofs.line.add_runs.Given as goal

abbrev pub invariant-loop-line : goal.invariant-loop-line
invariant-loop-line l = AddsLines l.regions (take l.line-index l.lines) l.fn.shapes.items l.shapes.items

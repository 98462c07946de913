use Rattle.std.proofs.Common.{◌≡◌, take, None}
use Rattle.grid_plan.specs.Lengths.{first_off}
use Rattle.grid_plan.proofs.lengths.first_off.Given as goal

abbrev pub invariant-loop-length : goal.invariant-loop-length
invariant-loop-length l = first_off l.fn.units (take l.length-index l.lengths) ≡ None

use Rattle.std.proofs.Common.{◌≡◌, take, None}
use Rattle.pdn_script.specs.declared.record.Ring.{Ring}
use Rattle.grid_plan.specs.Lengths.{first_off, ring_lengths}
use Rattle.grid_plan.specs.Order.{first_some, placed}
use Rattle.grid_plan.proofs.lengths.off_in_rings.Given as goal

abbrev pub invariant-loop-ring : goal.invariant-loop-ring
invariant-loop-ring l = first_some (λ (r : Ring). placed r.place (first_off l.fn.units (ring_lengths r))) (take l.ring-index l.rings) ≡ None

use Rattle.std.proofs.Common.{◌≡◌, map, take, None, []}
use Rattle.std.specs.Prelude.{slice_index_or}
use Rattle.grid_plan.specs.Names.{domain_nets}
use Rattle.grid_plan.specs.Order.{first_some}
use Rattle.grid_plan.specs.Unknown.{unknown}
use Rattle.grid_plan.proofs.resolve.first_foreign.Given as goal

abbrev pub invariant-loop-net : goal.invariant-loop-net
invariant-loop-net l = first_some (unknown (slice_index_or (map domain_nets l.domains) l.domain [])) (take l.net-index l.nets) ≡ None

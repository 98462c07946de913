use Rattle.std.proofs.Common.{◌≡◌, map, take}
use Rattle.def_design.specs.declared.record.Fence.{Fence}
use Rattle.grid_plan.proofs.tables.regions.Given as goal

abbrev pub invariant-loop-region : goal.invariant-loop-region
invariant-loop-region l = map (λ n. n.now) l.names.items ≡ map (λ (region : Fence). region.name) (take l.region-index l.design.regions)

use Rattle.std.proofs.Common.{◌≡◌, map, take}
use Rattle.geom_rect.specs.declared.rect.Rect.{Rect}
use Rattle.geom_rect.specs.Rect.{grown_by}
use Rattle.grid_cores.proofs.reach.grown_regions.Given as goal

abbrev pub invariant-loop-region : goal.invariant-loop-region
invariant-loop-region l = l.all.items ≡ map (λ (region : Rect). grown_by region l.fn.by) (take l.region-index l.regions)

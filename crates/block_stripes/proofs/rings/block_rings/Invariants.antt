use Rattle.std.proofs.Common.{◌≡◌, ℕ, take, filter, length}
use Rattle.std.specs.List.{flat_map, range_with_len}
use Rattle.grid_shapes.specs.Site.{grid_of}
use Rattle.block_stripes.specs.Rings.{grid_rings}
use Rattle.block_stripes.proofs.rings.block_rings.Given as goal

abbrev pub invariant-loop-place : goal.invariant-loop-place
invariant-loop-place l = l.shapes.items ≡ flat_map (grid_rings l.plan l.boxes)
    (filter (λ (grid : ℕ). (grid_of l.plan grid).over_macros) (take l.place (range_with_len 0 (length l.plan.grids))))

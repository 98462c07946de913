use Rattle.std.proofs.Common.{◌≡◌, ◌++◌, take, filter}
use Rattle.std.specs.Bool.{nat_eq}
use Rattle.std.specs.List.{flat_map}
use Rattle.grid_plan.specs.declared.record.RingAt.{RingAt}
use Rattle.block_stripes.specs.Rings.{ring_shapes}
use Rattle.block_stripes.proofs.rings.add_rings.Given as goal

abbrev pub invariant-loop-ring : goal.invariant-loop-ring
invariant-loop-ring l = l.shapes.items ≡ l.fn.shapes.items
    ++ flat_map (ring_shapes l.boxes) (filter (λ (ring : RingAt). nat_eq ring.grid l.grid) (take l.ring-index l.plan.rings))

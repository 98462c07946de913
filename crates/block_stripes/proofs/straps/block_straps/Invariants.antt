use Rattle.std.proofs.Common.{take, filter}
use Rattle.grid_plan.specs.declared.record.Straps.{Straps}
use Rattle.grid_shapes.specs.Site.{grid_of}
use Rattle.block_stripes.specs.Blocks.{boxes_of}
use Rattle.block_stripes.specs.Straps.{AreJoined, AreStrapsOver}
use Rattle.block_stripes.proofs.straps.block_straps.Given as goal

abbrev pub invariant-loop-straps : goal.invariant-loop-straps
invariant-loop-straps l = AreJoined (λ (s : Straps). AreStrapsOver s (boxes_of l.boxes s.grid))
    (filter (λ (s : Straps). (grid_of l.plan s.grid).over_macros) (take l.straps-index l.plan.straps)) l.shapes.items

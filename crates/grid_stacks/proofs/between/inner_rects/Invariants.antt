use Rattle.std.proofs.Common.{◌↔◌, Contains, take}
use Rattle.geom_rect.specs.declared.rect.Rect.{Rect}
use Rattle.grid_stacks.specs.inside.Standing.{IsInner}
use Rattle.grid_stacks.proofs.between.inner_rects.Given as goal

abbrev pub invariant-loop-block : goal.invariant-loop-block
invariant-loop-block l = (r : Rect) → Contains l.rects.items r ↔ IsInner l.tech l.connect (take l.block-index l.blocks) r

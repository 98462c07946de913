use Rattle.std.proofs.Common.{take}
use Rattle.grid_plan.specs.declared.record.Straps.{Straps}
use Rattle.grid_shapes.specs.Shapes.{AreOfEach, Draws, DrawStraps}
use Rattle.grid_shapes.specs.inside.Sites.{Adds}
use Rattle.grid_shapes.proofs.shaping.add_all_straps.Given as goal

abbrev pub invariant-loop-straps : goal.invariant-loop-straps
invariant-loop-straps l = Adds (AreOfEach (λ (c : Straps). Draws l.plan c.grid (DrawStraps l.plan c)) (take l.straps-index l.plan.straps)) l.fn.shapes.items l.shapes.items

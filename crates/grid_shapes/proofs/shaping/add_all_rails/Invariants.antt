use Rattle.std.proofs.Common.{take}
use Rattle.grid_plan.specs.declared.record.Rails.{Rails}
use Rattle.grid_shapes.specs.Shapes.{AreOfEach, Draws, DrawRails}
use Rattle.grid_shapes.specs.inside.Sites.{Adds}
use Rattle.grid_shapes.proofs.shaping.add_all_rails.Given as goal

abbrev pub invariant-loop-rails : goal.invariant-loop-rails
invariant-loop-rails l = Adds (AreOfEach (λ (c : Rails). Draws l.plan c.grid (DrawRails l.plan c)) (take l.rails-index l.plan.rails)) l.fn.shapes.items l.shapes.items

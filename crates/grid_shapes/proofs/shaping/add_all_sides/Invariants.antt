use Rattle.std.proofs.Common.{ℕ, take, length}
use Rattle.std.specs.List.{range_with_len}
use Rattle.grid_shapes.specs.Shapes.{AreOfEach, Draws, DrawSides}
use Rattle.grid_shapes.specs.inside.Sites.{Adds}
use Rattle.grid_shapes.proofs.shaping.add_all_sides.Given as goal

abbrev pub invariant-loop-place : goal.invariant-loop-place
invariant-loop-place l = Adds (AreOfEach (λ (grid : ℕ). Draws l.plan grid (DrawSides l.plan grid)) (take l.place (range_with_len 0 (length l.plan.grids)))) l.fn.shapes.items l.shapes.items

use Rattle.std.proofs.Common.{ℕ, ◌<◌}
use Rattle.grid_stacks.specs.declared.connect.Connect.{Connect}
use Rattle.grid_stacks.specs.Crossing.{At}
use Rattle.plain_drawing.specs.inside.Sites.{SameLayers}
use Rattle.plain_drawing.proofs.sites.is_used.Given as goal

abbrev pub invariant-loop-earlier : goal.invariant-loop-earlier
invariant-loop-earlier l =
    (k : ℕ) (one other : Connect) → k < l.earlier → At l.connects k other → At l.connects l.place one → SameLayers other one → ⊥

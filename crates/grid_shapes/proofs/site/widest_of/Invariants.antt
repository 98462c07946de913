use Rattle.std.proofs.Common.{◌≡◌, filter, take}
use Rattle.std.specs.Bool.{nat_eq}
use Rattle.grid_plan.specs.declared.record.Rails.{Rails}
use Rattle.grid_shapes.specs.Site.{widest}
use Rattle.grid_shapes.proofs.site.widest_of.Given as goal

abbrev pub invariant-loop-rails : goal.invariant-loop-rails
invariant-loop-rails l = l.widest ≡ widest (filter (λ (r : Rails). nat_eq r.grid l.grid) (take l.rails-index l.rails))

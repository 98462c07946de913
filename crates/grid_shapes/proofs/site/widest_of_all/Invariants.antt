use Rattle.std.proofs.Common.{◌≡◌, not, filter, take, get_or, true}
use Rattle.grid_plan.specs.declared.record.Rails.{Rails}
use Rattle.grid_shapes.specs.Site.{widest}
use Rattle.grid_shapes.proofs.site.widest_of_all.Given as goal

abbrev pub invariant-loop-rails : goal.invariant-loop-rails
invariant-loop-rails l = l.widest ≡ widest (filter (λ (r : Rails). not (get_or l.grids r.grid (record { domain = 0; over_macros = true })).over_macros) (take l.rails-index l.rails))

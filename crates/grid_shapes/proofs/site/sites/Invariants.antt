use Rattle.std.proofs.Common.{◌≡◌, ℕ, ◌<◌, length, get_or}
use Rattle.grid_shapes.specs.declared.site.Site.{Site}
use Rattle.grid_shapes.specs.inside.Sites.{HasSite}
use Rattle.grid_shapes.proofs.site.sites.Given as goal

abbrev pub invariant-loop-place : goal.invariant-loop-place
invariant-loop-place l = record {
  as_many : length l.sites.items ≡ l.place;
  each : (k : ℕ) (site : Site) → k < l.place → HasSite l.plan k (get_or l.sites.items k site);
}

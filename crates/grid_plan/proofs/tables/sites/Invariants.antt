use Rattle.std.proofs.Common.{◌≡◌, map, take}
use Rattle.lef_cells.specs.declared.record.Site.{Site}
use Rattle.grid_plan.proofs.tables.sites.Given as goal

abbrev pub invariant-loop-site : goal.invariant-loop-site
invariant-loop-site l = map (λ n. n.now) l.names.items ≡ map (λ (site : Site). site.name) (take l.site-index l.cells.sites)

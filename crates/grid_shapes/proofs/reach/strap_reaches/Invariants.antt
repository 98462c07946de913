use Rattle.std.proofs.Common.{◌≡◌, ℕ, map, take}
use Rattle.std.specs.Option.{unwrap_or}
use Rattle.grid_cores.specs.Core.{strap_reach}
use Rattle.grid_shapes.specs.Site.{stated_reach, sides_at, widest_at}
use Rattle.grid_shapes.proofs.reach.strap_reaches.Given as goal

abbrev pub invariant-loop-net : goal.invariant-loop-net
invariant-loop-net l = l.reaches.items ≡ map
    (λ (net : ℕ). unwrap_or (stated_reach l.straps.reach l.straps.rule.axis l.plan.die (sides_at l.plan l.straps.grid l.site.core) net)
    (strap_reach l.straps.rule.axis (widest_at l.plan l.straps.grid) l.site.core)) (take l.net-index l.straps.rule.nets)

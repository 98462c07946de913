use Rattle.std.proofs.Common.{◌≡◌, ℕ, ◌<◌, ◌++◌, ◌∷◌, [], List, map, take, length, get_or, subst, sym, ap, ◌∙◌, arith, SFits, w64, Option}
use Rattle.std.specs.Option.{unwrap_or}
use Rattle.std.proofs.lemmas.Int.{ints, to_z-of_z}
use Rattle.std.proofs.lemmas.List.{map_more}
use Rattle.geom_rect.specs.declared.drawn.Drawn.{Drawn}
use Rattle.geom_rect.specs.declared.run.Run.{Run}
use Rattle.grid_cores.specs.Core.{strap_reach}
use Rattle.grid_shapes.specs.Site.{stated_reach, sides_at, widest_at}
use Rattle.grid_shapes.proofs.reach.strap_reaches.Goals as goal

pub loop-net-preserved : goal.loop-net-preserved
loop-net-preserved c =
    let plan = c.args.plan.now in
    let straps = c.args.straps.now in
    let site = c.args.site.now in
    let axis = straps.rule.axis in
    let nets = straps.rule.nets in
    let items = c.as_slice-net-items.result.now in
    let i = c.loop-net.net-index in
    let net = get_or items i 0 in
    let sides = sides_at plan straps.grid site.core in
    let whole = strap_reach axis (widest_at plan straps.grid) site.core in
    let reach = λ (n : ℕ). unwrap_or (stated_reach straps.reach axis plan.die sides n) whole in
    let even = c.requires.widest.0 in
    let fits : SFits w64 site.widest = omega (arith, ints) in
    let core : c.strap_reach-core.result ≡ strap_reach axis site.widest site.core = simp to_z-of_z at c.strap_reach-core.ensures in
    let stated = c.stated_reach.ensures ∙ ap (λ (ss : List Drawn). stated_reach straps.reach axis plan.die ss net) (c.deref.ensures.value ∙ c.requires.site.sides) in
    let is = c.reach_or.ensures ∙ ap (λ (s : Option Run). unwrap_or s c.strap_reach-core.result) stated
    ∙ ap (λ (r : Run). unwrap_or (stated_reach straps.reach axis plan.die sides net) r) (core ∙ ap (λ w. strap_reach axis w site.core) c.requires.site.widest) in
    let within : i < length nets = subst (λ (ns : List ℕ). i < length ns) c.as_slice-net-items.ensures c.loop-net-test.true in
    c.in_ok-push.ensures.items ∙ ap (λ (rs : List Run). rs ++ c.reach_or.result ∷ []) c.loop-net.invariant
    ∙ ap (λ (r : Run). map reach (take i nets) ++ r ∷ []) (is ∙ ap (λ (ns : List ℕ). reach (get_or ns i 0)) c.as_slice-net-items.ensures)
    ∙ sym (map_more reach nets i 0 within)

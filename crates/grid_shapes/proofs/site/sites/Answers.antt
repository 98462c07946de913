use Rattle.std.proofs.Common.{ℕ, ◌<◌, ◌+◌, List, length, get_or, subst, sym, ap, ◌∙◌}
use Rattle.std.proofs.lemmas.List.{length_push}
use Rattle.grid_shapes.specs.declared.site.Site.{Site}
use Rattle.grid_shapes.specs.inside.Sites.{HasSite}
use Rattle.grid_shapes.proofs.Each.{each_pushed}
use Rattle.grid_shapes.proofs.site.sites.Goals as goal

pub loop-place-preserved : goal.loop-place-preserved
loop-place-preserved c =
    let sites = c.loop-place.sites.items in
    let site = c.in_ok-site_of.field-0 in
    let place = c.loop-place.place in
    let before = c.loop-place.invariant in
    record {
      as_many = ap length c.in_ok-push.ensures.items ∙ length_push sites site ∙ ap (λ n. n + 1) before.as_many;
      each = subst (λ (ss : List Site). (k : ℕ) (s : Site) → k < place + 1 → HasSite c.args.plan.now k (get_or ss k s)) (sym c.in_ok-push.ensures.items)
          (each_pushed (HasSite c.args.plan.now) sites site place before.as_many before.each c.in_ok-site_of.ensures.site);
    }

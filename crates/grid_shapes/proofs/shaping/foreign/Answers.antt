use Rattle.std.proofs.Common.{◌≡◌, ℤ, ◌+ℤ◌, List, All, map, subst, sym, ap, ◌∙◌, rules, SFits, w64, Option}
use Rattle.std.proofs.lemmas.Int.{to_z-of_z}
use Rattle.geom_rect.specs.declared.rect.Rect.{Rect}
use Rattle.geom_rect.specs.Drawn.{half}
use Rattle.geom_rect.specs.Rect.{HasCoordinates, grown_by}
use Rattle.grid_plan.specs.declared.record.GridAt.{GridAt}
use Rattle.grid_plan.specs.Keeping.{plan_regions}
use Rattle.grid_shapes.specs.Site.{grid_of, others_from, widest_of}
use Rattle.grid_shapes.specs.inside.Sites.{IsEvenWidth}
use Rattle.grid_shapes.proofs.Foreign.{foreign_fit}
use Rattle.grid_shapes.proofs.ReachesKeep.{plan_widest_of}
use Rattle.grid_shapes.proofs.shaping.foreign.Goals as goal

pub grown_length-by-requires-clause-width : goal.grown_length-by-requires-clause-width
grown_length-by-requires-clause-width c =
    let wide : SFits w64 c.args.widest = c.ranges.widest in
    simp to_z-of_z (subst IsEvenWidth (sym c.requires.widest) (plan_widest_of c.requires.plan.0 c.args.plan.now c.requires.plan.1))

pub grown_regions-requires : goal.grown_regions-requires
grown_regions-requires c =
    let plan = c.args.plan.now in
    let domain = (grid_of plan c.args.grid).domain in
    let by = c.grown_length-by.result in
    let fits : SFits w64 by = search rules in
    let wide : SFits w64 c.args.widest = c.ranges.widest in
    let short : SFits w64 c.args.spacing = c.ranges.spacing in
    let sum : by ≡ c.args.spacing +ℤ half c.args.widest = simp to_z-of_z at c.grown_length-by.ensures in
    let is : by ≡ c.args.spacing +ℤ half (widest_of plan) = sum ∙ ap (λ w. c.args.spacing +ℤ half w) c.requires.widest in
    let others : c.deref.result.now ≡ others_from 0 domain (plan_regions plan) = c.deref.ensures.value ∙ c.in_ok-others.ensures
    ∙ ap (λ (g : GridAt). others_from 0 g.domain c.args.regions.now) c.grid_at-domain.ensures ∙ ap (λ (rs : List (Option Rect)). others_from 0 domain rs) c.requires.regions in
    let fit : All (λ (region : Rect). HasCoordinates (grown_by region by)) c.deref.result.now =
    subst (λ (rs : List Rect). All (λ (region : Rect). HasCoordinates (grown_by region by)) rs) (sym others)
    (subst (λ (z : ℤ). All (λ (region : Rect). HasCoordinates (grown_by region z)) (others_from 0 domain (plan_regions plan))) (sym is)
    (foreign_fit c.requires.plan.0 plan domain c.args.spacing c.requires.plan.1 c.requires.spacing)) in
    simp to_z-of_z fit

pub returns : goal.returns
returns c =
    let plan = c.args.plan.now in
    let domain = (grid_of plan c.args.grid).domain in
    let by = c.grown_length-by.result in
    let fits : SFits w64 by = search rules in
    let wide : SFits w64 c.args.widest = c.ranges.widest in
    let short : SFits w64 c.args.spacing = c.ranges.spacing in
    let sum : by ≡ c.args.spacing +ℤ half c.args.widest = simp to_z-of_z at c.grown_length-by.ensures in
    let is : by ≡ c.args.spacing +ℤ half (widest_of plan) = sum ∙ ap (λ w. c.args.spacing +ℤ half w) c.requires.widest in
    let others : c.deref.result.now ≡ others_from 0 domain (plan_regions plan) = c.deref.ensures.value ∙ c.in_ok-others.ensures
    ∙ ap (λ (g : GridAt). others_from 0 g.domain c.args.regions.now) c.grid_at-domain.ensures ∙ ap (λ (rs : List (Option Rect)). others_from 0 domain rs) c.requires.regions in
    let grown : c.in_ok-grown.grown.items ≡ map (λ (region : Rect). grown_by region by) c.deref.result.now = simp to_z-of_z at c.in_ok-grown.ensures in
    grown ∙ ap (λ (z : ℤ). map (λ (region : Rect). grown_by region z) c.deref.result.now) is
    ∙ ap (λ (rs : List Rect). map (λ (region : Rect). grown_by region (c.args.spacing +ℤ half (widest_of plan))) rs) others

-- The regions of other domains, and what they are grown by.
use Rattle.std.proofs.Common.{◌≡◌, ℕ, ◌+◌, ◌<◌, ◌≤◌, ◌^◌, ℤ, pos, ◌+ℤ◌, ◌-ℤ◌, ◌≤ℤ◌, Bool, true, false, cond, List, [], ◌∷◌, ◌++◌, All, drop, length, get_or, refl, sym, ap, ◌∙◌, arith, append_assoc, Option, Some, None}
use Rattle.std.specs.Bool.{nat_eq}
use Rattle.std.specs.Option.{option_to_list}
use Rattle.std.proofs.lemmas.Int.{ints}
use Rattle.std.proofs.lemmas.List.{append-nil, at_drop_more, at_drop_all}
use Rattle.std.proofs.lemmas.List.Elements.{All-nil, All-cons, All-append, All-head, All-tail, All-map}
use Rattle.geom_rect.specs.declared.rect.Rect.{Rect}
use Rattle.geom_rect.specs.Drawn.{half}
use Rattle.geom_rect.specs.Rect.{HasCoordinates, IsCoordinate, grown_by}
use Rattle.lef_tech.specs.declared.tech.Tech.{Tech}
use Rattle.grid_pieces.specs.declared.grid.DomainAt.{DomainAt}
use Rattle.grid_plan.specs.declared.record.Plan.{Plan}
use Rattle.grid_plan.specs.Keeping.{PlanKeeps, RegionKeeps, IsLength, LiesNear, plan_regions}
use Rattle.grid_shapes.specs.Site.{others_from, widest_of}
use Rattle.grid_shapes.specs.inside.Sites.{IsEvenWidth}
use Rattle.grid_shapes.proofs.Cores.{low_of, high_of}
use Rattle.grid_shapes.proofs.ReachesKeep.{plan_widest_of}

chosen_same : (b : Bool) (region : Option Rect) → option_to_list (cond b None region) ≡ cond b [] (option_to_list region)
chosen_same true region = refl
chosen_same false region = refl

pub others_more : (domain : ℕ) (regions : List (Option Rect)) (i : ℕ) (d : Option Rect) (before total : List Rect) → i < length regions
    → before ++ others_from i domain (drop i regions) ≡ total
    → (before ++ option_to_list (cond (nat_eq i domain) None (get_or regions i d))) ++ others_from (i + 1) domain (drop (i + 1) regions) ≡ total
others_more domain regions i d before total within is =
    let rest = others_from (i + 1) domain (drop (i + 1) regions) in
    let region = get_or regions i d in
    let step : others_from i domain (drop i regions) ≡ cond (nat_eq i domain) [] (option_to_list region) ++ rest = at_drop_more (others_from i domain) regions i d within in
    ap (λ (rs : List Rect). (before ++ rs) ++ rest) (chosen_same (nat_eq i domain) region)
    ∙ append_assoc before (cond (nat_eq i domain) [] (option_to_list region)) rest
    ∙ ap (λ (rs : List Rect). before ++ rs) (sym step) ∙ is

pub others_all : (domain : ℕ) (regions : List (Option Rect)) (i : ℕ) (before total : List Rect) → length regions ≤ i
    → before ++ others_from i domain (drop i regions) ≡ total → before ≡ total
others_all domain regions i before total past is =
    let none : others_from i domain (drop i regions) ≡ [] = at_drop_all (others_from i domain) regions i past in
    sym (append-nil before) ∙ ap (λ (rs : List Rect). before ++ rs) (sym none) ∙ is

-- They lie near.
chosen_near : (b : Bool) (region : Option Rect) → RegionKeeps region → All (λ (r : Rect). LiesNear (2 ^ 30) r) (cond b [] (option_to_list region))
chosen_near true region keeps = All-nil (λ (r : Rect). LiesNear (2 ^ 30) r)
chosen_near false None keeps = All-nil (λ (r : Rect). LiesNear (2 ^ 30) r)
chosen_near false (Some region) keeps = All-cons (λ (r : Rect). LiesNear (2 ^ 30) r) region [] keeps (All-nil (λ (r : Rect). LiesNear (2 ^ 30) r))

others_near : (k domain : ℕ) (regions : List (Option Rect)) → All RegionKeeps regions → All (λ (r : Rect). LiesNear (2 ^ 30) r) (others_from k domain regions)
others_near k domain [] keep = All-nil (λ (r : Rect). LiesNear (2 ^ 30) r)
others_near k domain (region ∷ regions) keep =
    All-append (λ (r : Rect). LiesNear (2 ^ 30) r) (cond (nat_eq k domain) [] (option_to_list region)) (others_from (k + 1) domain regions)
    (chosen_near (nat_eq k domain) region (All-head RegionKeeps region regions keep)) (others_near (k + 1) domain regions (All-tail RegionKeeps region regions keep))

lower_fits : (z spacing w : ℤ) → pos 0 ≤ℤ (z +ℤ pos (2 ^ 30)) → z ≤ℤ pos (2 ^ 30) → IsLength spacing → IsEvenWidth w → IsCoordinate (z -ℤ (spacing +ℤ half w))
lower_fits z spacing w low high short even =
    let a = short.0 in
    let b = short.1 in
    let c = even.0.0 in
    let d = even.0.1 in
    let e = even.1 in
    (omega (arith, ints), omega (arith, ints))

upper_fits : (z spacing w : ℤ) → pos 0 ≤ℤ (z +ℤ pos (2 ^ 30)) → z ≤ℤ pos (2 ^ 30) → IsLength spacing → IsEvenWidth w → IsCoordinate (z +ℤ (spacing +ℤ half w))
upper_fits z spacing w low high short even =
    let a = short.0 in
    let b = short.1 in
    let c = even.0.0 in
    let d = even.0.1 in
    let e = even.1 in
    (omega (arith, ints), omega (arith, ints))

grown_fits : (region : Rect) (spacing w : ℤ) → LiesNear (2 ^ 30) region → IsLength spacing → IsEvenWidth w → HasCoordinates (grown_by region (spacing +ℤ half w))
grown_fits region spacing w near short even =
    let most = 2 ^ 30 in (
      lower_fits region.x1 spacing w (low_of most region.x1 near.x1) (high_of most region.x1 near.x1) short even,
      lower_fits region.y1 spacing w (low_of most region.y1 near.y1) (high_of most region.y1 near.y1) short even,
      upper_fits region.x2 spacing w (low_of most region.x2 near.x2) (high_of most region.x2 near.x2) short even,
      upper_fits region.y2 spacing w (low_of most region.y2 near.y2) (high_of most region.y2 near.y2) short even,
    )

pub foreign_fit : (tech : Tech) (plan : Plan) (domain : ℕ) (spacing : ℤ) → PlanKeeps tech plan → IsLength spacing
    → All (λ (region : Rect). HasCoordinates (grown_by region (spacing +ℤ half (widest_of plan)))) (others_from 0 domain (plan_regions plan))
foreign_fit tech plan domain spacing keeps short k d within =
    let regions : All RegionKeeps (plan_regions plan) =
    All-map RegionKeeps (λ (domain : DomainAt). domain.region) plan.domains (λ j e less. (keeps.domains j e less).region) in
    grown_fits (get_or (others_from 0 domain (plan_regions plan)) k d) spacing (widest_of plan) (others_near 0 domain (plan_regions plan) regions k d within) short
    (plan_widest_of tech plan keeps)

-- The sides of the ring of one grid after another.
use Rattle.std.proofs.Common.{◌≡◌, ℕ, ◌+◌, ◌<◌, Bool, true, false, cond, List, [], ◌++◌, take, length, get_or, refl, sym, ◌∙◌, arith, subst, inl}
use Rattle.std.specs.List.{range_with_len}
use Rattle.std.proofs.lemmas.List.FromFn.{length-range_with_len, get_or-range_with_len}
use Rattle.geom_rect.specs.declared.drawn.Drawn.{Drawn}
use Rattle.grid_plan.specs.declared.record.Plan.{Plan}
use Rattle.grid_shapes.specs.declared.site.Site.{Site}
use Rattle.grid_shapes.specs.Shapes.{AreOfEach, Draws, DrawSides}
use Rattle.grid_shapes.specs.Site.{grid_of}
use Rattle.grid_shapes.specs.inside.Sites.{AreSites, Adds}
use Rattle.grid_shapes.proofs.Each.{each_more, adds_drawn, site_at}

-- What one grid adds.
grid_sides : (plan : Plan) (sites : List Site) (k : ℕ) (site : Site) (over : Bool) (before after : List Drawn) → AreSites plan sites → k < length plan.grids
    → (grid_of plan k).over_macros ≡ over → site ≡ get_or sites k site → after ≡ before ++ cond over [] site.sides.items
    → Adds (Draws plan k (DrawSides plan k)) before after
grid_sides plan sites k site true before after are within over is added = ([], inl (over, refl), added)
grid_sides plan sites k site false before after are within over is added =
    let has = site_at plan sites k site are within over is in
    adds_drawn plan k (DrawSides plan k) before after over
    (site.sides.items, record { core = site.core; is_core = has.core; few = has.few; are = has.sides }, added)

pub sides_drawn : (plan : Plan) (sites : List Site) (k : ℕ) (site : Site) (over : Bool) (old before after : List Drawn) → AreSites plan sites → k < length plan.grids
    → (grid_of plan k).over_macros ≡ over → site ≡ get_or sites k site
    → Adds (AreOfEach (λ (grid : ℕ). Draws plan grid (DrawSides plan grid)) (take k (range_with_len 0 (length plan.grids)))) old before
    → after ≡ before ++ cond over [] site.sides.items
    → Adds (AreOfEach (λ (grid : ℕ). Draws plan grid (DrawSides plan grid)) (take (k + 1) (range_with_len 0 (length plan.grids)))) old after
sides_drawn plan sites k site over old before after are within is_over is so_far added =
    let n = length plan.grids in
    let draws = λ (grid : ℕ). Draws plan grid (DrawSides plan grid) in
    let number : get_or (range_with_len 0 n) k 0 ≡ k = get_or-range_with_len 0 n k 0 within ∙ omega arith in
    each_more draws (range_with_len 0 n) k 0 old before after (subst (λ (m : ℕ). k < m) (sym (length-range_with_len 0 n)) within) so_far
    (subst (λ (g : ℕ). Adds (draws g) before after) (sym number) (grid_sides plan sites k site over before after are within is_over is added))

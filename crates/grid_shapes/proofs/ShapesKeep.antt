-- What all shapes of a plan keep.
use Rattle.std.proofs.Common.{◌≡◌, ◌≢◌, ℕ, zero, suc, ◌+◌, ◌*◌, ◌<◌, ◌≤◌, ◌^◌, inl, inr, true, false, List, [], ◌∷◌, ◌++◌, All, Contains, length, get_or, sym, ◌∙◌, arith, subst, Some, None}
use Rattle.std.specs.Prelude.{slice_get}
use Rattle.std.specs.List.{range_with_len}
use Rattle.std.proofs.lemmas.Bool.{false≢true}
use Rattle.std.proofs.lemmas.List.Elements.{All-nil, All-append, All-head, All-tail, All-same, All-filter}
use Rattle.std.proofs.lemmas.List.FromFn.{length-range_with_len, get_or-range_with_len}
use Rattle.geom_rect.specs.declared.drawn.Drawn.{Drawn}
use Rattle.geom_rect.specs.declared.rect.Rect.{Rect}
use Rattle.lef_tech.specs.declared.tech.Tech.{Tech}
use Rattle.rail_layout.specs.declared.row.RowBox.{RowBox}
use Rattle.rail_layout.specs.Rails.{rails_of}
use Rattle.grid_cores.specs.Owner.{owns_row}
use Rattle.grid_pieces.specs.declared.grid.DomainAt.{DomainAt}
use Rattle.grid_plan.specs.declared.record.GridAt.{GridAt}
use Rattle.grid_plan.specs.declared.record.Plan.{Plan}
use Rattle.grid_plan.specs.declared.record.Rails.{Rails}
use Rattle.grid_plan.specs.declared.record.RingAt.{RingAt}
use Rattle.grid_plan.specs.declared.record.Straps.{Straps}
use Rattle.grid_plan.specs.Keeping.{PlanKeeps, StrapsKeep, RailsKeep, DomainKeeps, LiesNear, plan_regions, most_of_rows}
use Rattle.grid_shapes.specs.Shapes.{AreShapes, AreOfEach, Draws, DrawStraps, DrawRails, DrawSides, IsCoreOf, most_lines}
use Rattle.grid_shapes.specs.Site.{grid_of, rows_at, sides_at, strap_reaches, foreign}
use Rattle.grid_shapes.specs.inside.Sites.{ShapeKeeps}
use Rattle.grid_shapes.proofs.Cores.{core_near}
use Rattle.grid_shapes.proofs.LinesKeep.{straps_keep, all_left_keep}
use Rattle.grid_shapes.proofs.Lists.{numbers_below}
use Rattle.grid_shapes.proofs.RailsKeep.{rule_keeps, rails_keep}
use Rattle.grid_shapes.proofs.ReachesKeep.{reaches_fit}
use Rattle.grid_shapes.proofs.SidesKeep.{sides_keep}
use Rattle.std.proofs.lemmas.List.{length-map}

-- What the definitions have past the grids.
abbrev pub none : GridAt
none = record { domain = 0; over_macros = true }

pub rows_near : (tech : Tech) (plan : Plan) (grid : ℕ) → PlanKeeps tech plan → All (λ (row : RowBox). LiesNear most_of_rows row.rect) (rows_at plan grid)
rows_near tech plan grid keeps =
    All-filter (λ (row : RowBox). owns_row (plan_regions plan) (get_or (plan_regions plan) (grid_of plan grid).domain None) row.rect)
    (λ (row : RowBox). LiesNear most_of_rows row.rect) plan.rows keeps.rows

pub some_rows : (tech : Tech) (plan : Plan) (grid : ℕ) → PlanKeeps tech plan → grid < length plan.grids → (grid_of plan grid).over_macros ≡ false
    → rows_at plan grid ≢ []
some_rows tech plan grid keeps within drawn = (keeps.grids grid none within).rows drawn

pub plan_core_near : (tech : Tech) (plan : Plan) (grid : ℕ) (core : Rect) → PlanKeeps tech plan → grid < length plan.grids
    → (grid_of plan grid).over_macros ≡ false → IsCoreOf plan grid core → LiesNear most_of_rows core
plan_core_near tech plan grid core keeps within drawn is =
    core_near most_of_rows (rows_at plan grid) core (some_rows tech plan grid keeps within drawn) (rows_near tech plan grid keeps) is

-- The rings of a grid have few nets.
abbrev pub FewRings : Plan → ℕ → Type 0
FewRings plan grid = (ring : RingAt) → Contains plan.rings ring → ring.grid ≡ grid → 4 * length ring.rule.nets ≤ most_lines

pub drawn_straps_keep : (tech : Tech) (plan : Plan) (straps : Straps) (shapes : List Drawn) → PlanKeeps tech plan → StrapsKeep tech plan straps
    → (grid_of plan straps.grid).over_macros ≡ false → FewRings plan straps.grid → DrawStraps plan straps shapes → All (ShapeKeeps tech plan) shapes
drawn_straps_keep tech plan straps shapes keeps straps_keeps drawn few is =
    let near = plan_core_near tech plan straps.grid is.core keeps straps_keeps.grid drawn is.is_core in
    let sides = sides_keep tech plan straps.grid is.core keeps near few in
    let reaches = strap_reaches plan straps is.core in
    let lines = straps_keep tech plan straps is.core reaches is.lines straps_keeps near (reaches_fit tech plan straps is.core keeps near sides)
    (length-map straps.rule.nets _) is.drawn.0 in
    all_left_keep tech plan (foreign plan straps.grid straps.spacing) is.lines shapes lines is.cut

-- The domain at a place.
pub got_keeps : (P : DomainAt → Type 0) (domains : List DomainAt) (k : ℕ) (domain : DomainAt) → All P domains → slice_get domains k ≡ Some domain → P domain
got_keeps P [] k domain all is = absurd (cc)
got_keeps P (first ∷ domains) zero domain all is =
    let same : first ≡ domain = cc in
    subst P same (All-head P first domains all)
got_keeps P (first ∷ domains) (suc k) domain all is = got_keeps P domains k domain (All-tail P first domains all) is

pub drawn_rails_keep : (tech : Tech) (plan : Plan) (rails : Rails) (shapes : List Drawn) → PlanKeeps tech plan → RailsKeep tech plan rails
    → (grid_of plan rails.grid).over_macros ≡ false → FewRings plan rails.grid → DrawRails plan rails shapes → All (ShapeKeeps tech plan) shapes
drawn_rails_keep tech plan rails shapes keeps keep drawn few is =
    let near = plan_core_near tech plan rails.grid is.core keeps keep.grid drawn is.is_core in
    let sides = sides_keep tech plan rails.grid is.core keeps near few in
    let domain : DomainKeeps plan is.domain = got_keeps (DomainKeeps plan) plan.domains (grid_of plan rails.grid).domain is.domain keeps.domains is.is_domain in
    let rule = rule_keeps tech plan rails is.core is.domain is.rule keeps keep domain sides is.is_rule in
    let lines = rails_keep tech plan is.rule (rows_at plan rails.grid) rule (rows_near tech plan rails.grid keeps) in
    all_left_keep tech plan (foreign plan rails.grid rails.spacing) (rails_of is.rule (rows_at plan rails.grid)) shapes lines is.cut

-- The shapes of each command keep it.
each_keeps : {C : Type 0} (Q : C → Type 0) (P : Drawn → Type 0) (draws : C → List Drawn → Type 0)
    → ((command : C) (first : List Drawn) → Q command → draws command first → All P first)
    → (commands : List C) (shapes : List Drawn) → All Q commands → AreOfEach draws commands shapes → All P shapes
each_keeps Q P draws keeps [] shapes all are = All-same P shapes [] are (All-nil P)
each_keeps Q P draws keeps (command ∷ commands) shapes all (first, rest, is, are, joined) =
    All-same P shapes (first ++ rest) joined
    (All-append P first rest (keeps command first (All-head Q command commands all) is)
    (each_keeps Q P draws keeps commands rest (All-tail Q command commands all) are))

-- What the command at a place draws.
each_has : {C : Type 0} (draws : C → List Drawn → Type 0) (commands : List C) (shapes : List Drawn) (k : ℕ) (d : C) → AreOfEach draws commands shapes
    → k < length commands → (first : List Drawn) × draws (get_or commands k d) first
each_has draws [] shapes k d are within = absurd (omega arith)
each_has draws (command ∷ commands) shapes zero d (first, rest, is, are, joined) within = (first, is)
each_has draws (command ∷ commands) shapes (suc k) d (first, rest, is, are, joined) within = each_has draws commands rest k d are (omega arith)

drawn_by : (plan : Plan) (grid : ℕ) (drawn : List Drawn → Type 0) (P : Drawn → Type 0) (shapes : List Drawn)
    → ((grid_of plan grid).over_macros ≡ false → drawn shapes → All P shapes) → Draws plan grid drawn shapes → All P shapes
drawn_by plan grid drawn P shapes keeps (inl (over, nothing)) = All-same P shapes [] nothing (All-nil P)
drawn_by plan grid drawn P shapes keeps (inr (not_over, is)) = keeps not_over is

few_of : (plan : Plan) (grid : ℕ) (shapes : List Drawn) → (grid_of plan grid).over_macros ≡ false → Draws plan grid (DrawSides plan grid) shapes → FewRings plan grid
few_of plan grid shapes drawn (inl (over, nothing)) = absurd (false≢true (sym drawn ∙ over))
few_of plan grid shapes drawn (inr (not_over, is)) = is.few

few_rings : (plan : Plan) (shapes : List Drawn) (grid : ℕ) → AreShapes plan shapes → grid < length plan.grids → (grid_of plan grid).over_macros ≡ false → FewRings plan grid
few_rings plan shapes grid are within drawn =
    let n = length plan.grids in
    let draws = λ (g : ℕ). Draws plan g (DrawSides plan g) in
    let has = each_has draws (range_with_len 0 n) are.sides grid 0 are.of_grids (subst (λ (m : ℕ). grid < m) (sym (length-range_with_len 0 n)) within) in
    let number : get_or (range_with_len 0 n) grid 0 ≡ grid = get_or-range_with_len 0 n grid 0 within ∙ omega arith in
    few_of plan grid has.0 drawn (subst (λ (g : ℕ). Draws plan g (DrawSides plan g) has.0) number has.1)

pub shapes_keep : (tech : Tech) (plan : Plan) (shapes : List Drawn) → PlanKeeps tech plan → AreShapes plan shapes → All (ShapeKeeps tech plan) shapes
shapes_keep tech plan shapes keeps are =
    let P = ShapeKeeps tech plan in
    let n = length plan.grids in
    let straps : All P are.straps = each_keeps (StrapsKeep tech plan) P (λ (s : Straps). Draws plan s.grid (DrawStraps plan s))
    (λ s first keep is. drawn_by plan s.grid (DrawStraps plan s) P first
    (λ drawn draws. drawn_straps_keep tech plan s first keeps keep drawn (few_rings plan shapes s.grid are keep.grid drawn) draws) is)
    plan.straps are.straps keeps.straps are.of_straps in
    let rails : All P are.rails = each_keeps (RailsKeep tech plan) P (λ (r : Rails). Draws plan r.grid (DrawRails plan r))
    (λ r first keep is. drawn_by plan r.grid (DrawRails plan r) P first
    (λ drawn draws. drawn_rails_keep tech plan r first keeps keep drawn (few_rings plan shapes r.grid are keep.grid drawn) draws) is)
    plan.rails are.rails keeps.rails are.of_rails in
    let sides : All P are.sides = each_keeps (λ (g : ℕ). g < n) P (λ (g : ℕ). Draws plan g (DrawSides plan g))
    (λ g first within is. drawn_by plan g (DrawSides plan g) P first
    (λ drawn draws. All-same P first (sides_at plan g draws.core) draws.are
    (sides_keep tech plan g draws.core keeps (plan_core_near tech plan g draws.core keeps within drawn draws.is_core) draws.few)) is)
    (range_with_len 0 n) are.sides (numbers_below 0 n n (omega arith)) are.of_grids in
    All-same P shapes (are.straps ++ are.rails ++ are.sides) are.are (All-append P (are.straps ++ are.rails) are.sides (All-append P are.straps are.rails straps rails) sides)

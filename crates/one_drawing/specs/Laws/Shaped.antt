-- A plan has one list of shapes, and none where a rule draws too many lines.
use Rattle.std.proofs.Common.{◌≡◌, ◌⊎◌, inl, inr, ℕ, ◌*◌, ◌<◌, ◌≤◌, ℤ, ◌<ℤ◌, true, false, Option, List, [], ◌∷◌, ◌++◌, map, length, Contains, get_or, subst, refl, sym, ap, ◌∙◌, arith}
use Rattle.std.specs.List.{range_with_len}
use Rattle.std.proofs.lemmas.Bool.{false≢true, cases_lt}
use Rattle.std.proofs.lemmas.Int.{ints}
use Rattle.std.proofs.lemmas.List.{length-map, get_or_past}
use Rattle.std.proofs.lemmas.List.Elements.{All-contains}
use Rattle.std.proofs.lemmas.List.FromFn.{get_or-range_with_len, length-range_with_len}
use Rattle.geom_rect.specs.declared.drawn.Drawn.{Drawn}
use Rattle.geom_rect.specs.declared.rect.Rect.{Rect}
use Rattle.geom_rect.specs.declared.run.Run.{Run}
use Rattle.geom_rect.specs.Drawn.{drawn_run}
use Rattle.geom_rect.specs.Run.{IsMaximal, IsOpen, AreMaximalRuns}
use Rattle.rail_layout.specs.declared.row.RowBox.{RowBox}
use Rattle.rail_layout.specs.declared.rule.RailRule.{RailRule}
use Rattle.rail_layout.specs.Rails.{rails_of}
use Rattle.strap_layout.specs.declared.rule.StrapRule.{StrapRule}
use Rattle.strap_layout.specs.Lines.{LineAt, AreStrapsOf, AreStraps, IsDrawnLine, DrawsMore, ComesBefore, strap_of}
use Rattle.grid_cores.specs.Core.{IsCore}
use Rattle.grid_cores.specs.Owner.{LiesIn}
use Rattle.grid_cores.specs.Line.{regions_over, over_run, AreLineShapes, AreLinesShapes}
use Rattle.grid_pieces.specs.declared.grid.DomainAt.{DomainAt}
use Rattle.grid_pieces.specs.Laws.Amongst.{same_value}
use Rattle.grid_pieces.specs.Laws.Maximal.{maximal_among}
use Rattle.grid_plan.specs.declared.record.GridAt.{GridAt}
use Rattle.grid_plan.specs.declared.record.Plan.{Plan}
use Rattle.grid_plan.specs.declared.record.Rails.{Rails}
use Rattle.grid_plan.specs.declared.record.Straps.{Straps}
use Rattle.grid_shapes.specs.Shapes.{most_lines, DrawStraps, DrawRails, DrawSides, IsRailRule, Draws, AreOfEach, AreShapes, StrapsAreMany, RailsAreMany, SidesAreMany, LinesAreMany}
use Rattle.grid_shapes.specs.Site.{grid_of, rows_at, sides_at, strap_reaches, foreign}
use Rattle.one_drawing.specs.Laws.Listed.{has_cases, same_list, sorted_differ, no_longer}
use Rattle.one_drawing.specs.Laws.Ordered.{lines_one_way, runs_one_way}

-- ## cores

pub one_core : (rows : List RowBox) (a b : Rect) → IsCore rows a → IsCore rows b → a ≡ b
one_core rows a b x y =
    let there : LiesIn a b = x.smallest b y.holds in
    let back : LiesIn b a = y.smallest a x.holds in
    let x1 : a.x1 ≡ b.x1 = omega (arith, ints, there.0, back.0) in
    let y1 : a.y1 ≡ b.y1 = omega (arith, ints, there.1, back.1) in
    let x2 : a.x2 ≡ b.x2 = omega (arith, ints, there.2, back.2) in
    let y2 : a.y2 ≡ b.y2 = omega (arith, ints, there.3, back.3) in
    λ i. record { x1 = x1 i; y1 = y1 i; x2 = x2 i; y2 = y2 i }

-- ## lines and what regions leave of them

one_runs : (P : ℤ → Type 0) (a b : List Run) → AreMaximalRuns P a → AreMaximalRuns P b → a ≡ b
one_runs P a b x y =
    same_list (λ (p q : Run). p.from <ℤ q.from) runs_one_way a b x.rising y.rising (λ run has. maximal_among P b run y (All-contains (IsMaximal P) a run x.maximal has))
    (λ run has. maximal_among P a run x (All-contains (IsMaximal P) b run y.maximal has))

one_line : (regions : List Rect) (line : Drawn) (a b : List Drawn) → AreLineShapes regions line a → AreLineShapes regions line b → a ≡ b
one_line regions line a b x y =
    x.are ∙ ap (map (over_run line)) (one_runs (IsOpen (drawn_run line ∷ []) (regions_over regions line)) x.runs y.runs x.maximal y.maximal) ∙ sym y.are

one_lines : (regions : List Rect) (lines a b : List Drawn) → AreLinesShapes regions lines a → AreLinesShapes regions lines b → a ≡ b
one_lines regions [] a b x y = x ∙ sym y
one_lines regions (line ∷ lines) a b x y =
    let first = one_line regions line x.0 y.0 x.2 y.2 in
    let rest = one_lines regions lines x.1 y.1 x.3 y.3 in
    x.4 ∙ ap (λ (s : List Drawn). s ++ x.1) first ∙ ap (λ (s : List Drawn). y.0 ++ s) rest ∙ sym y.4

-- the lines of a rule with a property, in their order
one_strap_lines : (P : LineAt → Type 0) (rule : StrapRule) (core : Rect) (reach : List Run) (a b : List Drawn) → AreStrapsOf P rule core reach a → AreStrapsOf P rule core reach b → a ≡ b
one_strap_lines P rule core reach a b x y =
    x.drawn
    ∙ ap (map (strap_of rule core reach))
    (same_list ComesBefore lines_one_way x.lines y.lines x.in_order y.in_order (λ line has. y.every line (All-contains P x.lines line x.each has)) (λ line has. x.every line (All-contains P y.lines line y.each has)))
    ∙ sym y.drawn

-- ## what a grid draws

one_straps : (plan : Plan) (straps : Straps) (a b : List Drawn) → DrawStraps plan straps a → DrawStraps plan straps b → a ≡ b
one_straps plan straps a b x y =
    let core : x.core ≡ y.core = one_core (rows_at plan straps.grid) x.core y.core x.is_core y.is_core in
    let drawn : AreStraps straps.rule y.core (strap_reaches plan straps y.core) x.lines =
    subst (λ (c : Rect). AreStraps straps.rule c (strap_reaches plan straps c) x.lines) core x.drawn.0 in
    let lines : x.lines ≡ y.lines = one_strap_lines (IsDrawnLine straps.rule y.core) straps.rule y.core (strap_reaches plan straps y.core) x.lines y.lines drawn y.drawn.0 in
    one_lines (foreign plan straps.grid straps.spacing) y.lines a b (subst (λ (l : List Drawn). AreLinesShapes (foreign plan straps.grid straps.spacing) l a) lines x.cut) y.cut

-- the rule of this layer and width, with these reaches and nets
abbrev rule_with : (layer : ℕ) (width : ℤ) (lower_reach upper_reach : Option Run) (power ground : ℕ) → RailRule
rule_with layer width lower_reach upper_reach power ground =
    record { layer = layer; width = width; ground = ground; power = power; ground_reach = lower_reach; power_reach = upper_reach }

one_rule : (plan : Plan) (rails : Rails) (core : Rect) (domain : DomainAt) (a b : RailRule) → IsRailRule plan rails core domain a → IsRailRule plan rails core domain b → a ≡ b
one_rule plan rails core domain a b x y =
    let layer = x.layer ∙ sym y.layer in
    let width = x.width ∙ sym y.width in
    let lower = x.lower_net ∙ sym y.lower_net in
    let upper = x.upper_net ∙ sym y.upper_net in
    let lower_reach = x.lower_reach ∙ sym y.lower_reach in
    let upper_reach = x.upper_reach ∙ sym y.upper_reach in
    λ i. rule_with (layer i) (width i) (lower_reach i) (upper_reach i) (upper i) (lower i)

one_rails : (plan : Plan) (rails : Rails) (a b : List Drawn) → DrawRails plan rails a → DrawRails plan rails b → a ≡ b
one_rails plan rails a b x y =
    let core : x.core ≡ y.core = one_core (rows_at plan rails.grid) x.core y.core x.is_core y.is_core in
    let domain : x.domain ≡ y.domain = same_value x.domain y.domain (sym x.is_domain ∙ y.is_domain) in
    let of_core : IsRailRule plan rails y.core x.domain x.rule = subst (λ (c : Rect). IsRailRule plan rails c x.domain x.rule) core x.is_rule in
    let of_domain : IsRailRule plan rails y.core y.domain x.rule = subst (λ (d : DomainAt). IsRailRule plan rails y.core d x.rule) domain of_core in
    let rule : x.rule ≡ y.rule = one_rule plan rails y.core y.domain x.rule y.rule of_domain y.is_rule in
    let cut : AreLinesShapes (foreign plan rails.grid rails.spacing) (rails_of y.rule (rows_at plan rails.grid)) a =
    subst (λ (r : RailRule). AreLinesShapes (foreign plan rails.grid rails.spacing) (rails_of r (rows_at plan rails.grid)) a) rule x.cut in
    one_lines (foreign plan rails.grid rails.spacing) (rails_of y.rule (rows_at plan rails.grid)) a b cut y.cut

one_sides : (plan : Plan) (grid : ℕ) (a b : List Drawn) → DrawSides plan grid a → DrawSides plan grid b → a ≡ b
one_sides plan grid a b x y =
    let core : x.core ≡ y.core = one_core (rows_at plan grid) x.core y.core x.is_core y.is_core in
    x.are ∙ ap (sides_at plan grid) core ∙ sym y.are

one_drawn : (plan : Plan) (grid : ℕ) (drawn : List Drawn → Type 0) → ((a b : List Drawn) → drawn a → drawn b → a ≡ b) → (a b : List Drawn) → Draws plan grid drawn a → Draws plan grid drawn b → a ≡ b
one_drawn plan grid drawn one a b (inl x) (inl y) = x.1 ∙ sym y.1
one_drawn plan grid drawn one a b (inl x) (inr y) = absurd (false≢true (sym y.0 ∙ x.0))
one_drawn plan grid drawn one a b (inr x) (inl y) = absurd (false≢true (sym x.0 ∙ y.0))
one_drawn plan grid drawn one a b (inr x) (inr y) = one a b x.1 y.1

one_of_each : {C : Type 0} (draws : C → List Drawn → Type 0) → ((c : C) (a b : List Drawn) → draws c a → draws c b → a ≡ b) → (commands : List C) (a b : List Drawn)
    → AreOfEach draws commands a → AreOfEach draws commands b → a ≡ b
one_of_each draws one [] a b x y = x ∙ sym y
one_of_each draws one (c ∷ commands) a b x y =
    let first = one c x.0 y.0 x.2 y.2 in
    let rest = one_of_each draws one commands x.1 y.1 x.3 y.3 in
    x.4 ∙ ap (λ (s : List Drawn). s ++ x.1) first ∙ ap (λ (s : List Drawn). y.0 ++ s) rest ∙ sym y.4

pub one_shapes : (plan : Plan) (a b : List Drawn) → AreShapes plan a → AreShapes plan b → a ≡ b
one_shapes plan a b x y =
    let straps : x.straps ≡ y.straps =
    one_of_each (λ (s : Straps). Draws plan s.grid (DrawStraps plan s)) (λ s. one_drawn plan s.grid (DrawStraps plan s) (one_straps plan s)) plan.straps x.straps y.straps x.of_straps y.of_straps in
    let rails : x.rails ≡ y.rails =
    one_of_each (λ (r : Rails). Draws plan r.grid (DrawRails plan r)) (λ r. one_drawn plan r.grid (DrawRails plan r) (one_rails plan r)) plan.rails x.rails y.rails x.of_rails y.of_rails in
    let sides : x.sides ≡ y.sides =
    one_of_each (λ (grid : ℕ). Draws plan grid (DrawSides plan grid)) (λ grid. one_drawn plan grid (DrawSides plan grid) (one_sides plan grid)) (range_with_len 0 (length plan.grids)) x.sides y.sides
    x.of_grids y.of_grids in
    x.are ∙ ap (λ (s : List Drawn). s ++ x.rails ++ x.sides) straps ∙ ap (λ (r : List Drawn). y.straps ++ r ++ x.sides) rails ∙ ap (λ (s : List Drawn). y.straps ++ y.rails ++ s) sides ∙ sym y.are

-- ## too many lines

part_by : {C : Type 0} (draws : C → List Drawn → Type 0) (first : C) (commands : List C) (shapes : List Drawn) (c : C) → draws first shapes
    → ((d : C) → Contains commands d → (part : List Drawn) × draws d part) → (c ≡ first) ⊎ Contains commands c → (part : List Drawn) × draws c part
part_by {C} draws first commands shapes c is rest (inl e) = (shapes, subst (λ (d : C). draws d shapes) (sym e) is)
part_by draws first commands shapes c is rest (inr later) = rest c later

-- Each command draws its part.
part_of : {C : Type 0} (draws : C → List Drawn → Type 0) (commands : List C) (shapes : List Drawn) → AreOfEach draws commands shapes → (c : C) → Contains commands c → (part : List Drawn) × draws c part
part_of draws [] shapes are c has = absurd (omega (arith, has.1))
part_of draws (first ∷ commands) shapes are c has =
    part_by draws first commands are.0 c are.2 (part_of draws commands are.1 are.3) (has_cases first commands c has)

-- A grid that is not one over macros draws what it has.
is_drawn : (plan : Plan) (grid : ℕ) (drawn : List Drawn → Type 0) (shapes : List Drawn) → (grid_of plan grid).over_macros ≡ false → Draws plan grid drawn shapes → drawn shapes
is_drawn plan grid drawn shapes is (inl x) = absurd (false≢true (sym is ∙ x.0))
is_drawn plan grid drawn shapes is (inr x) = x.1

few_straps : (plan : Plan) (shapes : List Drawn) → AreShapes plan shapes → StrapsAreMany plan → ⊥
few_straps plan shapes are many =
    let part = part_of (λ (s : Straps). Draws plan s.grid (DrawStraps plan s)) plan.straps are.straps are.of_straps many.straps many.is in
    let draw : DrawStraps plan many.straps part.0 = is_drawn plan many.straps.grid (DrawStraps plan many.straps) part.0 many.drawn part.1 in
    let core : many.core ≡ draw.core = one_core (rows_at plan many.straps.grid) many.core draw.core many.is_core draw.is_core in
    let more : DrawsMore most_lines many.straps.rule draw.core = subst (DrawsMore most_lines many.straps.rule) core many.more in
    let straps = draw.drawn.0 in
    let le : length more.lines ≤ length straps.lines =
    no_longer more.lines straps.lines (sorted_differ ComesBefore lines_one_way more.lines more.in_order)
    (λ line has. straps.every line (All-contains (IsDrawnLine many.straps.rule draw.core) more.lines line more.each has)) in
    let long : length draw.lines ≡ length straps.lines = ap length straps.drawn ∙ length-map straps.lines (strap_of many.straps.rule draw.core (strap_reaches plan many.straps draw.core)) in
    let few : length draw.lines ≤ most_lines = draw.drawn.1 in
    let above : most_lines < length more.lines = more.more in
    absurd (omega arith)

few_rails : (plan : Plan) (shapes : List Drawn) → AreShapes plan shapes → RailsAreMany plan → ⊥
few_rails plan shapes are many =
    let part = part_of (λ (r : Rails). Draws plan r.grid (DrawRails plan r)) plan.rails are.rails are.of_rails many.rails many.is in
    let draw : DrawRails plan many.rails part.0 = is_drawn plan many.rails.grid (DrawRails plan many.rails) part.0 many.drawn part.1 in
    let few : 2 * length (rows_at plan many.rails.grid) ≤ most_lines = draw.few in
    let above : most_lines < 2 * length (rows_at plan many.rails.grid) = many.more in
    absurd (omega arith)

-- A number below a count is among the numbers from 0 up to it.
among_numbers : (n k : ℕ) → k < n → Contains (range_with_len 0 n) k
among_numbers n k less =
    let is : get_or (range_with_len 0 n) k k ≡ k = omega (arith, get_or-range_with_len 0 n k k less) in
    (k, omega (arith, length-range_with_len 0 n), is)

few_sides : (plan : Plan) (shapes : List Drawn) → AreShapes plan shapes → SidesAreMany plan → ⊥
few_sides plan shapes are many = by_place (cases_lt many.ring.grid (length plan.grids))
  where
    by_place : (many.ring.grid < length plan.grids) ⊎ (length plan.grids ≤ many.ring.grid) → ⊥
    by_place (inl within) =
        let part =
        part_of (λ (grid : ℕ). Draws plan grid (DrawSides plan grid)) (range_with_len 0 (length plan.grids)) are.sides are.of_grids many.ring.grid (among_numbers (length plan.grids) many.ring.grid within) in
        let draw : DrawSides plan many.ring.grid part.0 = is_drawn plan many.ring.grid (DrawSides plan many.ring.grid) part.0 many.drawn part.1 in
        let few = draw.few many.ring many.is refl in
        let above = many.more in
        absurd (omega arith)
    by_place (inr past) =
        absurd (false≢true (sym many.drawn ∙ ap (λ (g : GridAt). g.over_macros) (get_or_past plan.grids many.ring.grid (record { domain = 0; over_macros = true }) past)))

pub few_lines : (plan : Plan) (shapes : List Drawn) → AreShapes plan shapes → LinesAreMany plan → ⊥
few_lines plan shapes are (inl many) = few_straps plan shapes are many
few_lines plan shapes are (inr (inl many)) = few_rails plan shapes are many
few_lines plan shapes are (inr (inr many)) = few_sides plan shapes are many

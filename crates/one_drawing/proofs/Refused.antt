-- A script draws one grid over a design, or is refused for one reason.
use Rattle.std.proofs.Common.{◌≡◌, ◌≢◌, ◌⊎◌, inl, inr, List, subst, refl, sym, ap, ◌∙◌, Contains}
use Rattle.geom_rect.specs.declared.drawn.Drawn.{Drawn}
use Rattle.lef_tech.specs.declared.tech.Tech.{Tech}
use Rattle.lef_cells.specs.declared.record.Cells.{Cells}
use Rattle.def_design.specs.declared.record.Design.{Design}
use Rattle.pdn_script.specs.declared.record.Script.{Script}
use Rattle.lef_tech.specs.Limits.{TechKeeps}
use Rattle.def_design.specs.Limits.{DesignKeeps}
use Rattle.pdn_script.specs.Limits.{ScriptKeeps}
use Rattle.grid_pieces.specs.declared.error.Counted.TheVariants.{Lines, Pieces, Stacks}
use Rattle.grid_pieces.specs.declared.error.DrawError.{DrawError}
use Rattle.grid_pieces.specs.declared.error.DrawError.TheVariants as errors
use Rattle.grid_pieces.specs.declared.grid.Grid.{Grid}
use Rattle.grid_pieces.specs.declared.metal.Metal.{Metal}
use Rattle.grid_pieces.specs.declared.piece.Piece.{Piece}
use Rattle.grid_pieces.specs.declared.piece.StackAt.{StackAt}
use Rattle.grid_pieces.specs.declared.touch.Touching.{Touching}
use Rattle.grid_pieces.specs.Piece.{ArePieces}
use Rattle.grid_pieces.specs.Touch.{metal, IsFirstTouch}
use Rattle.grid_stacks.specs.declared.connect.Connect.{Connect}
use Rattle.grid_stacks.specs.Crossing.{Stands}
use Rattle.grid_stacks.specs.Stacking.{AreRefused}
use Rattle.grid_plan.specs.declared.record.Plan.{Plan}
use Rattle.grid_plan.specs.Names.{names_of}
use Rattle.grid_plan.specs.Planning.{IsPlanOf, IsPlanRefused}
use Rattle.grid_shapes.specs.Shapes.{AreShapes, LinesAreMany}
use Rattle.grid_shapes.specs.Drawing.{AreStacksOf, IsDrawingOf, HasPieces, HasManyLines, HasNoStacks, Touches, IsDrawRefused}
use Rattle.one_drawing.specs.Apart.{StandApart}
use Rattle.one_drawing.specs.Laws.Planned.{one_plan, same_but_connects, connect_moves, no_plan, one_plan_refusal}
use Rattle.one_drawing.proofs.Allowed.{allows, units_are}
use Rattle.one_drawing.proofs.Counted.{ByDivision}
use Rattle.one_drawing.proofs.Likened.{with_connects, shapes_move, many_move}
use Rattle.one_drawing.proofs.Restacked.{MovesRefusals, moves_alike, moves_limits, metal_same, no_refusal, one_refusal}
use Rattle.one_drawing.specs.Laws.Shaped.{one_shapes, few_lines}
use Rattle.one_drawing.specs.Laws.Pieced.{one_pieces}
use Rattle.one_drawing.specs.Laws.Stacked.{OneStack, one_stacks, is_want}
use Rattle.one_drawing.specs.Laws.Touched.{one_first_touch}

-- The pieces of a plan of which another differs in its connects alone are its own.
moved_pieces : (tech : Tech) (cells : Cells) (design : Design) (script : Script) (p q : Plan) (a b : List Piece) → HasPieces tech cells design script p a → HasPieces tech cells design script q b → a ≡ b
moved_pieces tech cells design script p q a b x y =
    let same : q ≡ with_connects p q.connects = same_but_connects tech cells design script p q x.is_plan y.is_plan in
    let moved : AreShapes (with_connects p q.connects) y.shapes = subst (λ (r : Plan). AreShapes r y.shapes) same y.are_shapes in
    let shapes : x.shapes ≡ y.shapes = one_shapes p x.shapes y.shapes x.are_shapes (shapes_move p q.connects y.shapes moved) in
    let of_shapes : ArePieces y.shapes p.blocks a = subst (λ (s : List Drawn). ArePieces s p.blocks a) shapes x.are_pieces in
    one_pieces y.shapes p.blocks a b of_shapes (subst (λ (r : Plan). ArePieces y.shapes r.blocks b) same y.are_pieces)

-- Lines are too many for no plan whose shapes stand.
many_lines : (tech : Tech) (cells : Cells) (design : Design) (script : Script) (plan : Plan) (pieces : List Piece) → HasManyLines tech cells design script → HasPieces tech cells design script plan pieces → ⊥
many_lines tech cells design script plan pieces many has =
    let same : many.plan ≡ with_connects plan many.plan.connects = same_but_connects tech cells design script plan many.plan has.is_plan many.is_plan in
    few_lines plan has.shapes has.are_shapes (many_move plan many.plan.connects (subst LinesAreMany same many.many))

pieces_of : (tech : Tech) (cells : Cells) (design : Design) (script : Script) (grid : Grid) (is : IsDrawingOf tech cells design script grid) → HasPieces tech cells design script is.plan grid.pieces
pieces_of tech cells design script grid is = record { is_plan = is.is_plan; shapes = is.shapes; are_shapes = is.are_shapes; are_pieces = is.pieces }

-- ## the drawing

pub one_grid : OneStack → (tech : Tech) (cells : Cells) (design : Design) (script : Script) → StandApart script → (a b : Grid) → IsDrawingOf tech cells design script a → IsDrawingOf tech cells design script b
    → a ≡ b
one_grid known tech cells design script apart a b x y =
    let plan : x.plan ≡ y.plan = one_plan tech cells design script x.plan y.plan apart x.is_plan y.is_plan in
    let units : a.units ≡ b.units = x.units ∙ ap (λ (p : Plan). p.units) plan ∙ sym y.units in
    let nets : a.nets ≡ b.nets = x.nets ∙ ap (λ (p : Plan). p.nets) plan ∙ sym y.nets in
    let power : a.power ≡ b.power = x.power ∙ ap (λ (p : Plan). p.power) plan ∙ sym y.power in
    let domains : a.domains ≡ b.domains = x.domains ∙ ap (λ (p : Plan). p.domains) plan ∙ sym y.domains in
    let pieces : a.pieces ≡ b.pieces =
    moved_pieces tech cells design script x.plan y.plan a.pieces b.pieces (pieces_of tech cells design script a x) (pieces_of tech cells design script b y) in
    let of_plan : AreStacksOf tech y.plan a.pieces a.stacks = subst (λ (p : Plan). AreStacksOf tech p a.pieces a.stacks) plan x.stacks in
    let of_pieces : AreStacksOf tech y.plan b.pieces a.stacks = subst (λ (c : List Piece). AreStacksOf tech y.plan c a.stacks) pieces of_plan in
    let stacks : a.stacks ≡ b.stacks = one_stacks known (Stands tech b.pieces y.plan.connects y.plan.blocks) tech y.plan.units b.pieces a.stacks b.stacks of_pieces y.stacks in
    λ i. record { units = units i; nets = nets i; power = power i; domains = domains i; pieces = pieces i; stacks = stacks i }

-- What is known of two plans of one script: the sites of one place are refused for the same reasons.
abbrev pub PlansAlike : Tech → Cells → Design → Script → Type 0
PlansAlike tech cells design script = (p q : Plan) → IsPlanOf tech cells design script p → IsPlanOf tech cells design script q → (pieces : List Piece)
    → MovesRefusals tech p.units pieces p.blocks p.connects q.connects

-- They are, where the commands stand apart.
pub alike_apart : (tech : Tech) (cells : Cells) (design : Design) (script : Script) → StandApart script → PlansAlike tech cells design script
alike_apart tech cells design script apart p q p_is q_is pieces =
    moves_alike tech p.units pieces p.blocks p.connects q.connects (ap (λ (r : Plan). r.connects) (one_plan tech cells design script p q apart p_is q_is))

-- They are, where the records keep what is asked of them.
pub alike_kept : ByDivision → (tech : Tech) (cells : Cells) (design : Design) (script : Script) → TechKeeps tech → DesignKeeps design → ScriptKeeps script → PlansAlike tech cells design script
alike_kept division tech cells design script tech_keeps design_keeps script_keeps p q p_is q_is pieces =
    moves_limits division tech tech_keeps p.units (units_are tech cells design script p design_keeps p_is) pieces p.blocks p.connects q.connects
    (allows (names_of tech cells design script) script script_keeps p.connects p_is.plans.connects) (allows (names_of tech cells design script) script script_keeps q.connects q_is.plans.connects)

module _ (known : OneStack) (tech : Tech) (cells : Cells) (design : Design) (script : Script) (alike : PlansAlike tech cells design script) where
  -- ## two plans

  moves : (p q : Plan) → IsPlanOf tech cells design script p → IsPlanOf tech cells design script q → (c : Connect) → Contains p.connects c → Contains q.connects c
  moves p q p_is q_is c has = connect_moves (names_of tech cells design script) script p.connects q.connects c p_is.plans.connects q_is.plans.connects has

  -- what is said under one plan is said under the other with its connects
  moved : (p q : Plan) (R : Plan → Type 0) → IsPlanOf tech cells design script p → IsPlanOf tech cells design script q → R q → R (with_connects p q.connects)
  moved p q R p_is q_is has = subst R (same_but_connects tech cells design script p q p_is q_is) has

  to_first : (p q : Plan) → IsPlanOf tech cells design script p → IsPlanOf tech cells design script q → (pieces : List Piece) → MovesRefusals tech p.units pieces p.blocks q.connects p.connects
  to_first p q p_is q_is pieces = moved p q (λ (r : Plan). MovesRefusals tech r.units pieces r.blocks q.connects p.connects) p_is q_is (alike q p q_is p_is pieces)

  same_metal : (p q : Plan) (a b : List Piece) (s t : List StackAt) → HasPieces tech cells design script p a → HasPieces tech cells design script q b → AreStacksOf tech p a s → AreStacksOf tech q b t
      → metal a s ≡ metal b t
  same_metal p q a b s t x y s_are t_are =
      let pieces : a ≡ b = moved_pieces tech cells design script p q a b x y in
      let under : AreStacksOf tech (with_connects p q.connects) b t = moved p q (λ (r : Plan). AreStacksOf tech r b t) x.is_plan y.is_plan t_are in
      let of_a : AreStacksOf tech (with_connects p q.connects) a t = subst (λ (c : List Piece). AreStacksOf tech (with_connects p q.connects) c t) (sym pieces) under in
      metal_same known tech p.units a p.blocks p.connects q.connects (moves p q x.is_plan y.is_plan) (moves q p y.is_plan x.is_plan) (alike p q x.is_plan y.is_plan a) (to_first p q x.is_plan y.is_plan a) s t
      s_are of_a ∙ ap (λ (c : List Piece). metal c t) pieces

  no_stacks : (p q : Plan) (a b : List Piece) (stacks : List StackAt) (e : DrawError) → HasPieces tech cells design script p a → HasPieces tech cells design script q b → AreStacksOf tech p a stacks
      → AreRefused (Stands tech b q.connects q.blocks) tech q.units b e → e ≢ errors.Want → ⊥
  no_stacks p q a b stacks e x y are refused differs =
      let pieces : a ≡ b = moved_pieces tech cells design script p q a b x y in
      let under : AreRefused (Stands tech b q.connects p.blocks) tech p.units b e =
      moved p q (λ (r : Plan). AreRefused (Stands tech b r.connects r.blocks) tech r.units b e) x.is_plan y.is_plan refused in
      let of_a : AreRefused (Stands tech a q.connects p.blocks) tech p.units a e = subst (λ (c : List Piece). AreRefused (Stands tech c q.connects p.blocks) tech p.units c e) (sym pieces) under in
      no_refusal known tech p.units a p.blocks p.connects q.connects (moves p q x.is_plan y.is_plan) (moves q p y.is_plan x.is_plan) (alike p q x.is_plan y.is_plan a) (to_first p q x.is_plan y.is_plan a) stacks
      e are of_a differs

  same_none : (e f : DrawError) → HasNoStacks tech cells design script e → HasNoStacks tech cells design script f → e ≢ errors.Want → f ≢ errors.Want → e ≡ f
  same_none e f x y e_known f_known =
      let p = x.plan in
      let q = y.plan in
      let pieces : x.pieces ≡ y.pieces = moved_pieces tech cells design script p q x.pieces y.pieces x.has y.has in
      let under : AreRefused (Stands tech y.pieces q.connects p.blocks) tech p.units y.pieces f =
      moved p q (λ (r : Plan). AreRefused (Stands tech y.pieces r.connects r.blocks) tech r.units y.pieces f) x.has.is_plan y.has.is_plan y.refused in
      let of_x : AreRefused (Stands tech x.pieces q.connects p.blocks) tech p.units x.pieces f =
      subst (λ (c : List Piece). AreRefused (Stands tech c q.connects p.blocks) tech p.units c f) (sym pieces) under in
      one_refusal known tech p.units x.pieces p.blocks p.connects q.connects (moves p q x.has.is_plan y.has.is_plan) (moves q p y.has.is_plan x.has.is_plan) (alike p q x.has.is_plan y.has.is_plan x.pieces)
      (to_first p q x.has.is_plan y.has.is_plan x.pieces) e f x.refused of_x e_known f_known

  -- ## refusals

  -- The reasons: no plan, too many lines, metal that touches, no stacks.
  abbrev HasTouch : DrawError → Type 0
  HasTouch e = (touching : Touching) × Touches tech cells design script touching × (e ≡ errors.Touch touching)

  abbrev HasCause : DrawError → Type 0
  HasCause e = IsPlanRefused tech cells design script e ⊎ ((HasManyLines tech cells design script × (e ≡ errors.TooMany Lines)) ⊎ (HasTouch e ⊎ HasNoStacks tech cells design script e))

  either : (e : DrawError) → IsPlanRefused tech cells design script e ⊎ HasNoStacks tech cells design script e → HasCause e
  either e (inl refused) = inl refused
  either e (inr none) = inr (inr (inr none))

  cause_of : (e : DrawError) → IsDrawRefused tech cells design script e → e ≢ errors.Want → HasCause e
  cause_of errors.Want refused differs = absurd (differs refl)
  cause_of (errors.TooMany Lines) refused differs = inr (inl (refused, refl))
  cause_of (errors.Touch touching) refused differs = inr (inr (inl (touching, refused, refl)))
  cause_of (errors.UnknownName name) refused differs = either (errors.UnknownName name) refused
  cause_of (errors.RingLayers k) refused differs = either (errors.RingLayers k) refused
  cause_of (errors.RailLayer k) refused differs = either (errors.RailLayer k) refused
  cause_of (errors.ParallelConnect k) refused differs = either (errors.ParallelConnect k) refused
  cause_of errors.NoRows refused differs = either errors.NoRows refused
  cause_of (errors.OffGrid k) refused differs = either (errors.OffGrid k) refused
  cause_of (errors.OddWidth k) refused differs = either (errors.OddWidth k) refused
  cause_of (errors.RegionShape k) refused differs = either (errors.RegionShape k) refused
  cause_of (errors.RegionsMeet j k) refused differs = either (errors.RegionsMeet j k) refused
  cause_of (errors.RowAcross k) refused differs = either (errors.RowAcross k) refused
  cause_of (errors.EmptyDomain k) refused differs = either (errors.EmptyDomain k) refused
  cause_of (errors.MacroGrid k) refused differs = either (errors.MacroGrid k) refused
  cause_of (errors.TooMany Pieces) refused differs = either (errors.TooMany Pieces) refused
  cause_of (errors.TooMany Stacks) refused differs = either (errors.TooMany Stacks) refused
  cause_of (errors.NoSheet k) refused differs = either (errors.NoSheet k) refused
  cause_of (errors.Stack error x y) refused differs = either (errors.Stack error x y) refused

  same_touch : (t u : Touching) → Touches tech cells design script t → Touches tech cells design script u → t ≡ u
  same_touch t u x y =
      let same = same_metal x.plan y.plan x.pieces y.pieces x.stacks y.stacks x.has y.has x.are_stacks y.are_stacks in
      one_first_touch (metal y.pieces y.stacks) t u (subst (λ (m : List Metal). IsFirstTouch m t) same x.first) y.first

  same_cause : (e f : DrawError) → e ≢ errors.Want → f ≢ errors.Want → HasCause e → HasCause f → e ≡ f
  same_cause e f e_known f_known (inl x) (inl y) = one_plan_refusal tech cells design script e f x y e_known f_known
  same_cause e f e_known f_known (inl x) (inr (inl y)) = absurd (no_plan tech cells design script y.0.plan e y.0.is_plan x e_known)
  same_cause e f e_known f_known (inl x) (inr (inr (inl y))) = absurd (no_plan tech cells design script y.1.plan e y.1.has.is_plan x e_known)
  same_cause e f e_known f_known (inl x) (inr (inr (inr y))) = absurd (no_plan tech cells design script y.plan e y.has.is_plan x e_known)
  same_cause e f e_known f_known (inr (inl x)) (inl y) = absurd (no_plan tech cells design script x.0.plan f x.0.is_plan y f_known)
  same_cause e f e_known f_known (inr (inl x)) (inr (inl y)) = x.1 ∙ sym y.1
  same_cause e f e_known f_known (inr (inl x)) (inr (inr (inl y))) = absurd (many_lines tech cells design script y.1.plan y.1.pieces x.0 y.1.has)
  same_cause e f e_known f_known (inr (inl x)) (inr (inr (inr y))) = absurd (many_lines tech cells design script y.plan y.pieces x.0 y.has)
  same_cause e f e_known f_known (inr (inr (inl x))) (inl y) = absurd (no_plan tech cells design script x.1.plan f x.1.has.is_plan y f_known)
  same_cause e f e_known f_known (inr (inr (inl x))) (inr (inl y)) = absurd (many_lines tech cells design script x.1.plan x.1.pieces y.0 x.1.has)
  same_cause e f e_known f_known (inr (inr (inl x))) (inr (inr (inl y))) = x.2 ∙ ap (λ (t : Touching). errors.Touch t) (same_touch x.0 y.0 x.1 y.1) ∙ sym y.2
  same_cause e f e_known f_known (inr (inr (inl x))) (inr (inr (inr y))) = absurd (no_stacks x.1.plan y.plan x.1.pieces y.pieces x.1.stacks f x.1.has y.has x.1.are_stacks y.refused f_known)
  same_cause e f e_known f_known (inr (inr (inr x))) (inl y) = absurd (no_plan tech cells design script x.plan f x.has.is_plan y f_known)
  same_cause e f e_known f_known (inr (inr (inr x))) (inr (inl y)) = absurd (many_lines tech cells design script x.plan x.pieces y.0 x.has)
  same_cause e f e_known f_known (inr (inr (inr x))) (inr (inr (inl y))) = absurd (no_stacks y.1.plan x.plan y.1.pieces x.pieces y.1.stacks e y.1.has x.has y.1.are_stacks x.refused e_known)
  same_cause e f e_known f_known (inr (inr (inr x))) (inr (inr (inr y))) = same_none e f x y e_known f_known

  pub one_cause : (e f : DrawError) → IsDrawRefused tech cells design script e → IsDrawRefused tech cells design script f → e ≢ errors.Want → f ≢ errors.Want → e ≡ f
  one_cause e f x y e_known f_known = same_cause e f e_known f_known (cause_of e x e_known) (cause_of f y f_known)

  -- no reason, where a grid is drawn
  no_cause : (grid : Grid) (e : DrawError) → IsDrawingOf tech cells design script grid → e ≢ errors.Want → HasCause e → ⊥
  no_cause grid e is known_e (inl x) = no_plan tech cells design script is.plan e is.is_plan x known_e
  no_cause grid e is known_e (inr (inl x)) = many_lines tech cells design script is.plan grid.pieces x.0 (pieces_of tech cells design script grid is)
  no_cause grid e is known_e (inr (inr (inl x))) =
      let touch = x.1 in
      let same = same_metal touch.plan is.plan touch.pieces grid.pieces touch.stacks grid.stacks touch.has (pieces_of tech cells design script grid is) touch.are_stacks is.stacks in
      let first : IsFirstTouch (metal grid.pieces grid.stacks) x.0 = subst (λ (m : List Metal). IsFirstTouch m x.0) same touch.first in
      is.apart x.0 first.is
  no_cause grid e is known_e (inr (inr (inr x))) =
      no_stacks is.plan x.plan grid.pieces x.pieces grid.stacks e (pieces_of tech cells design script grid is) x.has is.stacks x.refused known_e

  pub drawn_want : (grid : Grid) (e : DrawError) → IsDrawingOf tech cells design script grid → IsDrawRefused tech cells design script e → e ≡ errors.Want
  drawn_want grid e is refused = by_want (is_want e)
    where
      by_want : (e ≡ errors.Want) ⊎ (e ≢ errors.Want) → e ≡ errors.Want
      by_want (inl want) = want
      by_want (inr differs) = absurd (no_cause grid e is differs (cause_of e refused differs))

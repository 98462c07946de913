-- A script draws one grid over a design with blocks, or is refused for one reason.
use Rattle.std.proofs.Common.{◌≡◌, ◌≢◌, ◌⊎◌, inl, inr, ℕ, List, Option, Some, None, subst, refl, sym, ap, ◌∙◌}
use Rattle.geom_rect.specs.declared.rect.Rect.{Rect}
use Rattle.lef_tech.specs.declared.tech.Tech.{Tech}
use Rattle.lef_cells.specs.declared.record.Cells.{Cells}
use Rattle.def_design.specs.declared.record.Design.{Design}
use Rattle.macro_blocks.specs.declared.record.Blocks.{Blocks}
use Rattle.pdn_script.specs.declared.record.Script.{Script}
use Rattle.grid_pieces.specs.declared.error.Counted.TheVariants.{Lines}
use Rattle.grid_pieces.specs.declared.error.DrawError.{DrawError}
use Rattle.grid_pieces.specs.declared.error.DrawError.TheVariants as errors
use Rattle.grid_pieces.specs.declared.grid.Grid.{Grid}
use Rattle.grid_pieces.specs.declared.piece.Piece.{Piece}
use Rattle.grid_pieces.specs.declared.piece.StackAt.{StackAt}
use Rattle.grid_pieces.specs.declared.touch.Touching.{Touching}
use Rattle.grid_pieces.specs.Laws.Amongst.{none_is_no_value, same_value}
use Rattle.grid_pieces.specs.Touch.{metal, IsFirstTouch}
use Rattle.grid_stacks.specs.Crossing.{Stands}
use Rattle.grid_stacks.specs.Stacking.{AreRefused}
use Rattle.grid_plan.specs.declared.record.Plan.{Plan}
use Rattle.grid_plan.specs.Keeping.{plan_regions}
use Rattle.block_grids.specs.Halo.{first_bad}
use Rattle.placed_blocks.specs.declared.block.PlacedBlock.{PlacedBlock}
use Rattle.placed_blocks.specs.Placed.{ArePlacedBlocks}
use Rattle.macro_shapes.specs.Shapes.{MacroLinesAreMany}
use Rattle.pin_pieces.specs.Pins.{ArePinPieces}
use Rattle.macro_grid.specs.declared.error.MacroError.{MacroError}
use Rattle.macro_grid.specs.declared.error.MacroError.TheVariants.{Halo, Draw}
use Rattle.macro_grid.specs.declared.record.MacroGrid.{MacroGrid}
use Rattle.macro_grid.specs.Drawing.{without_places, Lays, all_blocks, AreMacroPieces, AreMacroStacks, IsOfPlan, IsMacroDrawing, HasManyLines, HasNoStacks, Touches, HasNoPlan, IsDrawRefused, IsMacroRefused}
use Rattle.one_drawing.specs.Apart.{StandApart}
use Rattle.one_drawing.specs.Laws.Planned.{one_plan, no_plan, one_plan_refusal}
use Rattle.one_drawing.specs.Laws.Stacked.{OneStack, one_stacks, is_want}
use Rattle.one_drawing.specs.Laws.Touched.{one_first_touch}
use Rattle.one_macro_grid.proofs.Shaped.{OneCut, few_macro_lines}
use Rattle.one_macro_grid.proofs.Pieced.{one_macro_pieces, one_pins}
use Rattle.one_macro_grid.proofs.Stacked.{no_refusal, one_refusal}

-- What is known of blocks in their places: there is one list of them.
abbrev pub OnePlaced : Type 0
OnePlaced = (tech : Tech) (cells : Cells) (blocks : Blocks) (design : Design) (script : Script) (regions : List (Option Rect)) (one other : List PlacedBlock)
    → ArePlacedBlocks tech cells blocks design script regions one → ArePlacedBlocks tech cells blocks design script regions other → one ≡ other

-- What is known of stacks, of blocks in their places and of cuts.
pub record OneOfEach : Type 0 where
  pub stack : OneStack
  pub placed : OnePlaced
  pub cut : OneCut

-- A plan, blocks in their places, and all pieces.
abbrev Cut : Type 0
Cut = Plan × List PlacedBlock × List Piece

abbrev cut_of : Plan → List PlacedBlock → List Piece → Cut
cut_of plan placed pieces = (plan, placed, pieces)

-- A grid is what its plan, its pieces and its stacks are.
same_grid : (p q : Plan) (g h : Grid) → p ≡ q → IsOfPlan p g → IsOfPlan q h → g.pieces ≡ h.pieces → g.stacks ≡ h.stacks → g ≡ h
same_grid p q g h plan x y pieces stacks =
    let units : g.units ≡ h.units = x.units ∙ ap (λ (r : Plan). r.units) plan ∙ sym y.units in
    let nets : g.nets ≡ h.nets = x.nets ∙ ap (λ (r : Plan). r.nets) plan ∙ sym y.nets in
    let power : g.power ≡ h.power = x.power ∙ ap (λ (r : Plan). r.power) plan ∙ sym y.power in
    let domains : g.domains ≡ h.domains = x.domains ∙ ap (λ (r : Plan). r.domains) plan ∙ sym y.domains in
    λ i. record { units = units i; nets = nets i; power = power i; domains = domains i; pieces = pieces i; stacks = stacks i }

module _ (known : OneOfEach) (tech : Tech) (cells : Cells) (blocks : Blocks) (design : Design) (script : Script) (apart : StandApart script) where
  -- ## what there is one of

  abbrev LaysOut : Plan → List PlacedBlock → Type 0
  LaysOut plan placed = Lays tech cells blocks design script plan placed

  same_plan : (p q : Plan) (u v : List PlacedBlock) → LaysOut p u → LaysOut q v → p ≡ q
  same_plan p q u v x y = one_plan tech cells (without_places design) script p q apart x.is_plan y.is_plan

  same_placed : (p q : Plan) (u v : List PlacedBlock) → LaysOut p u → LaysOut q v → u ≡ v
  same_placed p q u v x y =
      let of_other : ArePlacedBlocks tech cells blocks design script (plan_regions q) u =
      subst (λ (r : Plan). ArePlacedBlocks tech cells blocks design script (plan_regions r) u) (same_plan p q u v x y) x.are_placed in
      known.placed tech cells blocks design script (plan_regions q) u v of_other y.are_placed

  same_pieces : (p q : Plan) (u v : List PlacedBlock) (straps straps' pieces pieces' : List Piece) → LaysOut p u → LaysOut q v → AreMacroPieces tech p u straps pieces
      → AreMacroPieces tech q v straps' pieces' → (straps ≡ straps') × (pieces ≡ pieces')
  same_pieces p q u v straps straps' pieces pieces' x y a b =
      let of_plan : AreMacroPieces tech q u straps pieces = subst (λ (r : Plan). AreMacroPieces tech r u straps pieces) (same_plan p q u v x y) a in
      let of_placed : AreMacroPieces tech q v straps pieces = subst (λ (w : List PlacedBlock). AreMacroPieces tech q w straps pieces) (same_placed p q u v x y) of_plan in
      one_macro_pieces known.cut tech q v straps straps' pieces pieces' of_placed b

  -- A plan, blocks in their places, and all pieces of both.
  record IsCut (plan : Plan) (placed : List PlacedBlock) (pieces : List Piece) : Type 0 where
    pub lays : LaysOut plan placed
    pub straps : List Piece
    pub are_pieces : AreMacroPieces tech plan placed straps pieces

  same_cut : (p q : Plan) (u v : List PlacedBlock) (a b : List Piece) → IsCut p u a → IsCut q v b → cut_of p u a ≡ cut_of q v b
  same_cut p q u v a b x y =
      let plan = same_plan p q u v x.lays y.lays in
      let placed = same_placed p q u v x.lays y.lays in
      let pieces = (same_pieces p q u v x.straps y.straps a b x.lays y.lays x.are_pieces y.are_pieces).1 in
      λ i. cut_of (plan i) (placed i) (pieces i)

  same_stacks : (p q : Plan) (u v : List PlacedBlock) (a b : List Piece) (s t : List StackAt) → IsCut p u a → IsCut q v b → AreMacroStacks tech p u a s → AreMacroStacks tech q v b t → s ≡ t
  same_stacks p q u v a b s t x y s_are t_are =
      let moved : AreMacroStacks tech q v b s = subst (λ (c : Cut). AreMacroStacks tech c.0 c.1 c.2 s) (same_cut p q u v a b x y) s_are in
      one_stacks known.stack (Stands tech b q.connects (all_blocks tech q v)) tech q.units b s t moved t_are

  cut_in : (drawn : MacroGrid) → (is : IsMacroDrawing tech cells blocks design script drawn) → IsCut is.plan is.placed drawn.grid.pieces
  cut_in drawn is = record { lays = is.lays; straps = drawn.written.pieces; are_pieces = is.pieces }

  cut_touching : (t : Touching) → (is : Touches tech cells blocks design script t) → IsCut is.plan is.placed is.pieces
  cut_touching t is = record { lays = is.lays; straps = is.straps; are_pieces = is.are_pieces }

  cut_unjoined : (e : DrawError) → (is : HasNoStacks tech cells blocks design script e) → IsCut is.plan is.placed is.pieces
  cut_unjoined e is = record { lays = is.lays; straps = is.straps; are_pieces = is.are_pieces }

  -- ## the drawing

  pub one_grid : (a b : MacroGrid) → IsMacroDrawing tech cells blocks design script a → IsMacroDrawing tech cells blocks design script b → a ≡ b
  one_grid a b x y =
      let plan : x.plan ≡ y.plan = same_plan x.plan y.plan x.placed y.placed x.lays y.lays in
      let pieces = same_pieces x.plan y.plan x.placed y.placed a.written.pieces b.written.pieces a.grid.pieces b.grid.pieces x.lays y.lays x.pieces y.pieces in
      let stacks : a.grid.stacks ≡ b.grid.stacks =
      same_stacks x.plan y.plan x.placed y.placed a.grid.pieces b.grid.pieces a.grid.stacks b.grid.stacks (cut_in a x) (cut_in b y) x.stacks y.stacks in
      let whole : a.grid ≡ b.grid = same_grid x.plan y.plan a.grid b.grid plan x.grid_is y.grid_is pieces.1 stacks in
      let written : a.written ≡ b.written =
      same_grid x.plan y.plan a.written b.written plan x.written_is y.written_is pieces.0 (x.written_stacks ∙ stacks ∙ sym y.written_stacks) in
      let moved : ArePinPieces tech y.plan.domains y.placed b.grid.pieces a.pins =
      subst (λ (c : Cut). ArePinPieces tech c.0.domains c.1 c.2 a.pins) (same_cut x.plan y.plan x.placed y.placed a.grid.pieces b.grid.pieces (cut_in a x) (cut_in b y)) x.pins in
      let pins : a.pins ≡ b.pins = one_pins tech y.plan.domains y.placed b.grid.pieces a.pins b.pins moved y.pins in
      λ i. record { grid = whole i; written = written i; pins = pins i }

  -- ## two that do not go together

  no_plan_laid : (plan : Plan) (placed : List PlacedBlock) (e : DrawError) → LaysOut plan placed → HasNoPlan tech cells design script e → e ≢ errors.Want → ⊥
  no_plan_laid plan placed e lays none = no_plan tech cells (without_places design) script plan e lays.is_plan none.1

  not_many : (plan : Plan) (placed : List PlacedBlock) (pieces : List Piece) → IsCut plan placed pieces → HasManyLines tech cells blocks design script → ⊥
  not_many plan placed pieces is many =
      let of_plan : MacroLinesAreMany plan many.placed =
      subst (λ (r : Plan). MacroLinesAreMany r many.placed) (same_plan many.plan plan many.placed placed many.lays is.lays) many.many in
      let of_placed : MacroLinesAreMany plan placed =
      subst (λ (w : List PlacedBlock). MacroLinesAreMany plan w) (same_placed many.plan plan many.placed placed many.lays is.lays) of_plan in
      few_macro_lines plan placed is.are_pieces.shapes is.are_pieces.are_shapes of_placed

  joined : (plan : Plan) (placed : List PlacedBlock) (pieces : List Piece) (stacks : List StackAt) (e : DrawError) → IsCut plan placed pieces → AreMacroStacks tech plan placed pieces stacks
      → HasNoStacks tech cells blocks design script e → e ≢ errors.Want → ⊥
  joined plan placed pieces stacks e is are none known_e =
      let moved : AreMacroStacks tech none.plan none.placed none.pieces stacks =
      subst (λ (c : Cut). AreMacroStacks tech c.0 c.1 c.2 stacks) (same_cut plan none.plan placed none.placed pieces none.pieces is (cut_unjoined e none)) are in
      no_refusal known.stack (Stands tech none.pieces none.plan.connects (all_blocks tech none.plan none.placed)) tech none.plan.units none.pieces stacks e moved none.refused known_e

  -- ## one of a kind

  one_touch : (t u : Touching) → Touches tech cells blocks design script t → Touches tech cells blocks design script u → t ≡ u
  one_touch t u x y =
      let cut = same_cut x.plan y.plan x.placed y.placed x.pieces y.pieces (cut_touching t x) (cut_touching u y) in
      let stacks = same_stacks x.plan y.plan x.placed y.placed x.pieces y.pieces x.stacks y.stacks (cut_touching t x) (cut_touching u y) x.are_stacks y.are_stacks in
      let of_pieces : IsFirstTouch (metal y.pieces x.stacks) t = subst (λ (c : Cut). IsFirstTouch (metal c.2 x.stacks) t) cut x.first in
      let of_stacks : IsFirstTouch (metal y.pieces y.stacks) t = subst (λ (s : List StackAt). IsFirstTouch (metal y.pieces s) t) stacks of_pieces in
      one_first_touch (metal y.pieces y.stacks) t u of_stacks y.first

  one_none : (e f : DrawError) → HasNoStacks tech cells blocks design script e → HasNoStacks tech cells blocks design script f → e ≢ errors.Want → f ≢ errors.Want → e ≡ f
  one_none e f x y e_known f_known =
      let moved : AreRefused (Stands tech y.pieces y.plan.connects (all_blocks tech y.plan y.placed)) tech y.plan.units y.pieces e =
      subst (λ (c : Cut). AreRefused (Stands tech c.2 c.0.connects (all_blocks tech c.0 c.1)) tech c.0.units c.2 e)
      (same_cut x.plan y.plan x.placed y.placed x.pieces y.pieces (cut_unjoined e x) (cut_unjoined f y)) x.refused in
      one_refusal known.stack (Stands tech y.pieces y.plan.connects (all_blocks tech y.plan y.placed)) tech y.plan.units y.pieces e f moved y.refused e_known f_known

  -- ## why nothing is drawn

  -- The reasons after the halos: no plan, too many lines, metal that touches, no stacks.
  abbrev HasTouch : DrawError → Type 0
  HasTouch e = (touching : Touching) × Touches tech cells blocks design script touching × (e ≡ errors.Touch touching)

  abbrev HasMany : DrawError → Type 0
  HasMany e = HasManyLines tech cells blocks design script × (e ≡ errors.TooMany Lines)

  abbrev IsUnjoined : DrawError → Type 0
  IsUnjoined e = HasTouch e ⊎ HasNoStacks tech cells blocks design script e

  abbrev HasCause : DrawError → Type 0
  HasCause e = HasNoPlan tech cells design script e ⊎ (HasMany e ⊎ IsUnjoined e)

  either : (e : DrawError) → HasNoPlan tech cells design script e ⊎ HasNoStacks tech cells blocks design script e → HasCause e
  either e (inl refused) = inl refused
  either e (inr none) = inr (inr (inr none))

  cause_of : (e : DrawError) → IsDrawRefused tech cells blocks design script e → e ≢ errors.Want → HasCause e
  cause_of errors.Want refused differs = absurd (differs refl)
  cause_of (errors.TooMany Lines) refused differs = inr (inl (refused, refl))
  cause_of (errors.Touch touching) refused differs = inr (inr (inl (touching, refused, refl)))
  cause_of e refused differs = either e refused

  -- The pieces are there where they are not joined, and the blocks where there is a plan.
  cut_under : (e : DrawError) → IsUnjoined e → (plan : Plan) × (placed : List PlacedBlock) × (pieces : List Piece) × IsCut plan placed pieces
  cut_under e (inl x) = (x.1.plan, x.1.placed, x.1.pieces, cut_touching x.0 x.1)
  cut_under e (inr x) = (x.plan, x.placed, x.pieces, cut_unjoined e x)

  laid_under : (e : DrawError) → HasMany e ⊎ IsUnjoined e → (plan : Plan) × (placed : List PlacedBlock) × LaysOut plan placed
  laid_under e (inl x) = (x.0.plan, x.0.placed, x.0.lays)
  laid_under e (inr x) = let cut = cut_under e x in (cut.0, cut.1, cut.3.lays)

  -- no halo is refused where a later cause is
  no_halo : (e : DrawError) → HasCause e → first_bad design.units script ≡ None
  no_halo e (inl x) = x.0
  no_halo e (inr x) = (laid_under e x).2.halos

  same_unjoined : (e f : DrawError) → e ≢ errors.Want → f ≢ errors.Want → IsUnjoined e → IsUnjoined f → e ≡ f
  same_unjoined e f e_known f_known (inl x) (inl y) = x.2 ∙ ap (λ (t : Touching). errors.Touch t) (one_touch x.0 y.0 x.1 y.1) ∙ sym y.2
  same_unjoined e f e_known f_known (inl x) (inr y) = absurd (joined x.1.plan x.1.placed x.1.pieces x.1.stacks f (cut_touching x.0 x.1) x.1.are_stacks y f_known)
  same_unjoined e f e_known f_known (inr x) (inl y) = absurd (joined y.1.plan y.1.placed y.1.pieces y.1.stacks e (cut_touching y.0 y.1) y.1.are_stacks x e_known)
  same_unjoined e f e_known f_known (inr x) (inr y) = one_none e f x y e_known f_known

  same_cause : (e f : DrawError) → e ≢ errors.Want → f ≢ errors.Want → HasCause e → HasCause f → e ≡ f
  same_cause e f e_known f_known (inl x) (inl y) = one_plan_refusal tech cells (without_places design) script e f x.1 y.1 e_known f_known
  same_cause e f e_known f_known (inl x) (inr y) = let laid = laid_under f y in absurd (no_plan_laid laid.0 laid.1 e laid.2 x e_known)
  same_cause e f e_known f_known (inr x) (inl y) = let laid = laid_under e x in absurd (no_plan_laid laid.0 laid.1 f laid.2 y f_known)
  same_cause e f e_known f_known (inr (inl x)) (inr (inl y)) = x.1 ∙ sym y.1
  same_cause e f e_known f_known (inr (inl x)) (inr (inr y)) = let cut = cut_under f y in absurd (not_many cut.0 cut.1 cut.2 cut.3 x.0)
  same_cause e f e_known f_known (inr (inr x)) (inr (inl y)) = let cut = cut_under e x in absurd (not_many cut.0 cut.1 cut.2 cut.3 y.0)
  same_cause e f e_known f_known (inr (inr x)) (inr (inr y)) = same_unjoined e f e_known f_known x y

  -- ## one refusal

  known_in : (e : DrawError) → Draw e ≢ Draw errors.Want → e ≢ errors.Want
  known_in e differs same = differs (ap (λ (z : DrawError). Draw z) same)

  halo_first : (grid : ℕ) (e : DrawError) → first_bad design.units script ≡ Some grid → IsDrawRefused tech cells blocks design script e → e ≢ errors.Want → ⊥
  halo_first grid e bad refused e_known = none_is_no_value grid (sym (no_halo e (cause_of e refused e_known)) ∙ bad)

  pub one_cause : (e f : MacroError) → IsMacroRefused tech cells blocks design script e → IsMacroRefused tech cells blocks design script f → e ≢ Draw errors.Want → f ≢ Draw errors.Want → e ≡ f
  one_cause (Halo grid) (Halo other) x y e_known f_known = ap (λ (z : ℕ). Halo z) (same_value grid other (sym x ∙ y))
  one_cause (Halo grid) (Draw f) x y e_known f_known = absurd (halo_first grid f x y (known_in f f_known))
  one_cause (Draw e) (Halo grid) x y e_known f_known = absurd (halo_first grid e y x (known_in e e_known))
  one_cause (Draw e) (Draw f) x y e_known f_known =
      ap (λ (z : DrawError). Draw z) (same_cause e f (known_in e e_known) (known_in f f_known) (cause_of e x (known_in e e_known)) (cause_of f y (known_in f f_known)))

  -- ## no reason where a grid is drawn

  no_cause : (drawn : MacroGrid) (e : DrawError) → IsMacroDrawing tech cells blocks design script drawn → e ≢ errors.Want → HasCause e → ⊥
  no_cause drawn e is known_e (inl x) = no_plan_laid is.plan is.placed e is.lays x known_e
  no_cause drawn e is known_e (inr (inl x)) = not_many is.plan is.placed drawn.grid.pieces (cut_in drawn is) x.0
  no_cause drawn e is known_e (inr (inr (inl x))) =
      let touch = x.1 in
      let cut = same_cut touch.plan is.plan touch.placed is.placed touch.pieces drawn.grid.pieces (cut_touching x.0 touch) (cut_in drawn is) in
      let stacks =
      same_stacks touch.plan is.plan touch.placed is.placed touch.pieces drawn.grid.pieces touch.stacks drawn.grid.stacks (cut_touching x.0 touch) (cut_in drawn is) touch.are_stacks is.stacks in
      let of_pieces : IsFirstTouch (metal drawn.grid.pieces touch.stacks) x.0 = subst (λ (c : Cut). IsFirstTouch (metal c.2 touch.stacks) x.0) cut touch.first in
      let first : IsFirstTouch (metal drawn.grid.pieces drawn.grid.stacks) x.0 = subst (λ (s : List StackAt). IsFirstTouch (metal drawn.grid.pieces s) x.0) stacks of_pieces in
      is.apart x.0 first.is
  no_cause drawn e is known_e (inr (inr (inr x))) = joined is.plan is.placed drawn.grid.pieces drawn.grid.stacks e (cut_in drawn is) is.stacks x known_e

  pub drawn_want : (drawn : MacroGrid) (e : MacroError) → IsMacroDrawing tech cells blocks design script drawn → IsMacroRefused tech cells blocks design script e → e ≡ Draw errors.Want
  drawn_want drawn (Halo grid) is refused = absurd (none_is_no_value grid (sym is.lays.halos ∙ refused))
  drawn_want drawn (Draw e) is refused = by_want (is_want e)
    where
      by_want : (e ≡ errors.Want) ⊎ (e ≢ errors.Want) → Draw e ≡ Draw errors.Want
      by_want (inl want) = ap (λ (z : DrawError). Draw z) want
      by_want (inr differs) = absurd (no_cause drawn e is differs (cause_of e refused differs))

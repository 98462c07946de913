-- A plan has one list of shapes over blocks in their places, and none where a command draws too many lines.
use Rattle.std.proofs.Common.{◌≡◌, inl, inr, ◌⊎◌, ℕ, ◌+◌, ◌<◌, ◌≤◌, List, [], ◌∷◌, ◌++◌, map, length, Contains, flat_map, subst, refl, sym, ap, ◌∙◌, arith}
use Rattle.std.proofs.lemmas.List.{length-append, length-map}
use Rattle.std.proofs.lemmas.List.Elements.{All-contains}
use Rattle.entry_list.specs.InTurn.{InTurn}
use Rattle.geom_rect.specs.declared.drawn.Drawn.{Drawn}
use Rattle.geom_rect.specs.declared.rect.Rect.{Rect}
use Rattle.geom_rect.specs.declared.run.Run.{Run}
use Rattle.strap_layout.specs.declared.rule.StrapRule.{StrapRule}
use Rattle.strap_layout.specs.Lines.{LineAt, AreStraps, IsDrawnLine, ComesBefore, strap_of}
use Rattle.grid_pieces.specs.Laws.Amongst.{Among-filter}
use Rattle.grid_plan.specs.declared.record.Plan.{Plan}
use Rattle.grid_plan.specs.declared.record.Straps.{Straps}
use Rattle.grid_shapes.specs.Shapes.{most_lines}
use Rattle.grid_shapes.specs.Site.{grid_of}
use Rattle.placed_blocks.specs.declared.block.PlacedBlock.{PlacedBlock}
use Rattle.halo_cuts.specs.declared.shape.GridShape.{GridShape}
use Rattle.halo_cuts.specs.Cut.{AreCut}
use Rattle.block_stripes.specs.declared.blocks.BlockBox.{BlockBox}
use Rattle.block_stripes.specs.Blocks.{boxes_in, boxes_of, of_grid}
use Rattle.block_stripes.specs.Straps.{box_reaches, DrawOver, AreJoined, AreStrapsOver, commands_over, AreBlockStraps, AreDrawnLines, StrapsAreMany}
use Rattle.block_stripes.specs.Rings.{ring_lines, AreFew, RingsAreMany}
use Rattle.macro_shapes.specs.Shapes.{no_grid, AreMacroShapes, MacroLinesAreMany}
use Rattle.one_drawing.specs.Laws.Listed.{has_cases, same_list, sorted_differ, no_longer}
use Rattle.one_drawing.specs.Laws.Ordered.{lines_one_way}
use Rattle.one_drawing.specs.Laws.Shaped.{one_shapes, few_lines}

-- What is known of cuts: blocks leave one list of shapes.
abbrev pub OneCut : Type 0
OneCut = (blocks : List PlacedBlock) (shapes : List GridShape) (one other : List Drawn) → AreCut blocks shapes one → AreCut blocks shapes other → one ≡ other

-- ## straps over blocks

one_lines : (rule : StrapRule) (core : Rect) (reach : List Run) (a b : List Drawn) → AreStraps rule core reach a → AreStraps rule core reach b → a ≡ b
one_lines rule core reach a b x y =
    x.drawn
    ∙ ap (map (strap_of rule core reach))
    (same_list ComesBefore lines_one_way x.lines y.lines x.in_order y.in_order (λ line has. y.every line (All-contains (IsDrawnLine rule core) x.lines line x.each has))
    (λ line has. x.every line (All-contains (IsDrawnLine rule core) y.lines line y.each has)))
    ∙ sym y.drawn

one_over : (straps : Straps) (box : Rect) (a b : List GridShape) → DrawOver straps box a → DrawOver straps box b → a ≡ b
one_over straps box a b x y = x.are ∙ ap (of_grid straps.grid) (one_lines straps.rule box (box_reaches straps box) x.lines y.lines x.drawn y.drawn) ∙ sym y.are

one_joined : {C : Type 0} (draws : C → List GridShape → Type 0) → ((c : C) (a b : List GridShape) → draws c a → draws c b → a ≡ b)
    → (commands : List C) (a b : List GridShape) → AreJoined draws commands a → AreJoined draws commands b → a ≡ b
one_joined draws one [] a b x y = x ∙ sym y
one_joined draws one (c ∷ commands) a b (first, rest, is, are, joined) (first', rest', is', are', joined') =
    let same = one c first first' is is' in
    let more = one_joined draws one commands rest rest' are are' in
    joined ∙ (λ i. same i ++ more i) ∙ sym joined'

one_block_straps : (plan : Plan) (boxes : List BlockBox) (a b : List GridShape) → AreBlockStraps plan boxes a → AreBlockStraps plan boxes b → a ≡ b
one_block_straps plan boxes =
    one_joined (λ (straps : Straps). AreStrapsOver straps (boxes_of boxes straps.grid))
    (λ straps a b x y. one_joined (DrawOver straps) (one_over straps) (boxes_of boxes straps.grid) a b x.0 y.0) (commands_over plan)

-- ## all shapes

pub one_macro_shapes : OneCut → (plan : Plan) (blocks : List PlacedBlock) (a b : List Drawn) → AreMacroShapes plan blocks a → AreMacroShapes plan blocks b → a ≡ b
one_macro_shapes cut plan blocks a b x y =
    let plain : x.plain ≡ y.plain = one_shapes plan x.plain y.plain x.whole.of_plain y.whole.of_plain in
    let straps : x.straps ≡ y.straps = one_block_straps plan (boxes_in blocks) x.straps y.straps x.whole.of_straps y.whole.of_straps in
    let rings : x.rings ≡ y.rings = x.whole.of_rings ∙ sym y.whole.of_rings in
    let whole : of_grid no_grid x.plain ++ x.straps ++ x.rings ≡ of_grid no_grid y.plain ++ y.straps ++ y.rings =
    λ i. of_grid no_grid (plain i) ++ straps i ++ rings i in
    cut blocks (of_grid no_grid y.plain ++ y.straps ++ y.rings) a b (subst (λ (w : List GridShape). AreCut blocks w a) whole x.cut) y.cut

-- ## too many lines

pub not_more : (n m : ℕ) → n ≤ m → m < n → ⊥
not_more n m few many = omega arith

-- each command draws its part
part_of : {C : Type 0} (draws : C → List GridShape → Type 0) (commands : List C) (shapes : List GridShape) → AreJoined draws commands shapes → (c : C) → Contains commands c
    → (part : List GridShape) × draws c part
part_of draws [] shapes are c has = absurd (omega (arith, has.1))
part_of {C} draws (d ∷ commands) shapes (first, rest, is, are, joined) c has = by (part_of draws commands rest are) (has_cases d commands c has)
  where
    by : ((z : C) → Contains commands z → (part : List GridShape) × draws z part) → (c ≡ d) ⊎ Contains commands c → (part : List GridShape) × draws c part
    by more (inl same) = (first, subst (λ (z : C). draws z first) (sym same) is)
    by more (inr later) = more c later

-- lines over one box are no more than the straps over it
few_over_one : (straps : Straps) (box : Rect) (shapes : List GridShape) (lines : List LineAt) → DrawOver straps box shapes → AreDrawnLines straps.rule box lines → length lines ≤ length shapes
few_over_one straps box shapes lines draws are =
    let le : length lines ≤ length draws.drawn.lines =
    no_longer lines draws.drawn.lines (sorted_differ ComesBefore lines_one_way lines are.in_order)
    (λ line has. draws.drawn.every line (All-contains (IsDrawnLine straps.rule box) lines line are.each has)) in
    let long : length shapes ≡ length draws.drawn.lines =
    ap length draws.are ∙ length-map draws.lines _ ∙ ap length draws.drawn.drawn ∙ length-map draws.drawn.lines _ in
    omega arith

few_over : (straps : Straps) (boxes : List Rect) (shapes : List GridShape) (lines : List (List LineAt)) → AreJoined (DrawOver straps) boxes shapes
    → InTurn (AreDrawnLines straps.rule) boxes lines → length (flat_map (λ (over_one : List LineAt). over_one) lines) ≤ length shapes
few_over straps [] shapes [] are over = omega arith
few_over straps [] shapes (one ∷ lines) are over = absurd over
few_over straps (box ∷ boxes) shapes [] are over = absurd over
few_over straps (box ∷ boxes) shapes (one ∷ lines) (first, rest, is, are, joined) over =
    let here = few_over_one straps box first one is over.0 in
    let more = few_over straps boxes rest lines are over.1 in
    let count = length-append one (flat_map (λ (over_one : List LineAt). over_one) lines) in
    let long : length shapes ≡ length first + length rest = ap length joined ∙ length-append first rest in
    omega arith

few_straps : (plan : Plan) (boxes : List BlockBox) (shapes : List GridShape) → AreBlockStraps plan boxes shapes → StrapsAreMany plan boxes → ⊥
few_straps plan boxes shapes are many =
    let straps = many.straps in
    let is_over : Straps → Type 0 = λ (s : Straps). s ≡ straps in
    let chosen = (Among-filter (λ (s : Straps). (grid_of plan s.grid).over_macros) is_over plan.straps).1 (straps, many.is, (many.over_macros, refl)) in
    let has : Contains (commands_over plan) straps = subst (Contains (commands_over plan)) chosen.2 chosen.1 in
    let part = part_of (λ (s : Straps). AreStrapsOver s (boxes_of boxes s.grid)) (commands_over plan) shapes are straps has in
    let few : length part.0 ≤ most_lines = part.1.1 in
    let le = few_over straps (boxes_of boxes straps.grid) part.0 many.more.lines part.1.0 many.more.over_each in
    let above = many.more.more in
    absurd (omega arith)

few_rings : (plan : Plan) (blocks : List PlacedBlock) (shapes : List Drawn) → AreMacroShapes plan blocks shapes → RingsAreMany plan (boxes_in blocks) → ⊥
few_rings plan blocks shapes are many =
    not_more (ring_lines (boxes_in blocks) many.ring) most_lines (All-contains (AreFew plan (boxes_in blocks)) plan.rings many.ring are.whole.few many.is many.over_macros) many.more

pub few_macro_lines : (plan : Plan) (blocks : List PlacedBlock) (shapes : List Drawn) → AreMacroShapes plan blocks shapes → MacroLinesAreMany plan blocks → ⊥
few_macro_lines plan blocks shapes are (inl many) = few_lines plan are.plain are.whole.of_plain many
few_macro_lines plan blocks shapes are (inr (inl many)) = few_straps plan (boxes_in blocks) are.straps are.whole.of_straps many
few_macro_lines plan blocks shapes are (inr (inr many)) = few_rings plan blocks shapes are many

-- Pads and taps lie on their pieces.
use Rattle.std.proofs.Common.{◌≡◌, ◌⊎◌, inl, inr, ℕ, ℤ, pos, neg_ℤ, ◌≤ℤ◌, List, [], ◌∷◌, get_or, All, sym, ◌∙◌, subst, arith}
use Rattle.std.proofs.lemmas.Int.{ints}
use Rattle.std.proofs.lemmas.List.{get_or_default}
use Rattle.std.proofs.lemmas.List.Elements.{All-nil, All-cons, All-append, All-contains}
use Rattle.geom_rect.specs.Rect.{HasPoint}
use Rattle.geom_rect.specs.Drawn.{centred}
use Rattle.geom_rect.specs.declared.direction.Axis.{Axis}
use Rattle.geom_rect.specs.declared.direction.Axis.TheVariants.{X, Y}
use Rattle.geom_rect.specs.declared.drawn.Shape.TheVariants.{Stripe}
use Rattle.lef_tech.specs.declared.tech.Tech.{Tech}
use Rattle.lef_tech.specs.Limits.{TechKeeps}
use Rattle.lef_cells.specs.declared.record.Cells.{Cells}
use Rattle.def_design.specs.declared.record.Component.{Component}
use Rattle.bias_file.specs.declared.record.Bias.{Bias}
use Rattle.bias_file.specs.declared.record.Amps.{Amps}
use Rattle.bias_file.specs.declared.record.PadAt.{PadAt}
use Rattle.bias_file.specs.Limits.{BiasKeeps, AmpsKeep}
use Rattle.grid_pieces.specs.declared.grid.Grid.{Grid}
use Rattle.grid_pieces.specs.declared.piece.Piece.{Piece}
use Rattle.grid_network.specs.declared.pad.PadOn.{PadOn}
use Rattle.grid_network.specs.declared.pad.Tap.{Tap}
use Rattle.grid_network.specs.Asked.{IsOnPiece, IsDrawing}
use Rattle.grid_network.specs.Drawing.{piece_at}
use Rattle.grid_taps.specs.Naming.{At}
use Rattle.grid_taps.specs.Pads.{place_along, IsPadOn, AreOnPieces, InOrder, ArePads}
use Rattle.grid_taps.specs.Rails.{IsLowestRail}
use Rattle.grid_taps.specs.Taps.{IsLine, IsRange, AreTapsOf, AreTapsFor, AreTaps}
use Rattle.grid_extract.specs.Extraction.{GridKeeps, drawing_of}

-- what each source gives has the property, so all has
pub all_in_order : {S E : Type 0} (gives : S → List E → Type 0) (P : E → Type 0) → ((s : S) (es : List E) → gives s es → All P es) → (ss : List S) (es : List E)
    → InOrder gives ss es → All P es
all_in_order {S} {E} gives P each [] es none = subst (λ (z : List E). All P z) (sym none) (All-nil P)
all_in_order {S} {E} gives P each (s ∷ ss) es (first, rest, given, others, join) =
    subst (λ (z : List E). All P z) (sym join) (All-append P first rest (each s first given) (all_in_order gives P each ss rest others))

pub on_piece : (pieces : List Piece) (number : ℕ) (along : ℤ) (piece : Piece) → At pieces number piece → piece.from ≤ℤ along → along ≤ℤ piece.to → IsOnPiece pieces number along
on_piece pieces number along piece (within, is) low high =
    let nothing : Piece = record { net = 0; layer = 0; axis = X; centre = pos 0; width = pos 0; from = pos 0; to = pos 0; shape = Stripe } in
    let same : piece_at pieces number ≡ piece = get_or_default pieces number nothing piece within ∙ is in
    record {
      piece = within;
      not_before = subst (λ (p : Piece). p.from ≤ℤ along) (sym same) low;
      not_behind = subst (λ (p : Piece). along ≤ℤ p.to) (sym same) high;
    }

-- a point of a piece lies between its ends along it
along_it : (axis : Axis) (centre width from to x y : ℤ) → HasPoint (centred axis centre width from to) x y → (from ≤ℤ place_along axis x y) × (place_along axis x y ≤ℤ to)
along_it X centre width from to x y has = (has.0.0, has.0.1)
along_it Y centre width from to x y has = (has.1.0, has.1.1)

pad_lies : (grid : Grid) (tech : Tech) (bias : Bias) (pad : PadAt) (on : PadOn) → IsPadOn grid tech bias pad on → IsOnPiece grid.pieces on.piece on.along
pad_lies grid tech bias pad on h =
    let p : Piece = h.stands.piece in
    let ends = along_it p.axis p.centre p.width p.from p.to h.stands.x h.stands.y h.stands.has in
    on_piece grid.pieces on.piece on.along p h.stands.is (subst (λ z. p.from ≤ℤ z) (sym h.stands.so_far) ends.0) (subst (λ z. z ≤ℤ p.to) (sym h.stands.so_far) ends.1)

pub pads_lie : (grid : Grid) (tech : Tech) (bias : Bias) (pads : List PadOn) → ArePads grid tech bias pads → All (λ (p : PadOn). IsOnPiece grid.pieces p.piece p.along) pads
pads_lie grid tech bias pads are =
    all_in_order (AreOnPieces grid tech bias) (λ (p : PadOn). IsOnPiece grid.pieces p.piece p.along)
    (λ pad on h k d within. pad_lies grid tech bias pad (get_or on k d) (h.each k d within)) bias.pads pads are

-- ## taps

line_rises : (lines : List Amps) → All AmpsKeep lines → (name : List ℕ) (low high : ℤ) → IsLine lines name low high → low ≤ℤ high
line_rises lines keep name low high (a, in_a, (_, is_low, is_high)) =
    let keeps = All-contains AmpsKeep lines a keep in_a in
    let rises : a.low ≤ℤ a.high = keeps.1 in
    subst (λ z. z ≤ℤ high) is_low (subst (λ z. a.low ≤ℤ z) is_high rises)

pub range_rises : (bias : Bias) → BiasKeeps bias → (component : Component) (low high : ℤ) → IsRange bias component low high → low ≤ℤ high
range_rises bias keeps component low high (inl h) = line_rises bias.instances keeps.instances component.name low high h
range_rises bias keeps component low high (inr (inl h)) = line_rises bias.cells keeps.cells component.cell low high h.1
range_rises bias keeps component low high (inr (inr h)) = let is_low = h.2 in let is_high = h.3 in omega (arith, ints)

-- a tap that lies on its piece and whose range rises
abbrev pub IsTapOn : Grid → Tap → Type 0
IsTapOn grid t = IsOnPiece grid.pieces t.piece t.along × (t.low ≤ℤ t.high)

lies_there : (grid : Grid) (net : ℕ) (tap : Tap) (lower upper : ℤ) → IsLowestRail grid net (record { x = tap.along; lower = lower; upper = upper }) tap.piece
    → IsOnPiece grid.pieces tap.piece tap.along
lies_there grid net tap lower upper rail = on_piece grid.pieces tap.piece tap.along rail.rail rail.is.is rail.crosses.0.0 rail.crosses.0.1

pair_lies : (grid : Grid) (cells : Cells) (component : Component) (low high : ℤ) (taps : List Tap) → low ≤ℤ high → AreTapsOf grid cells component low high taps
    → All (IsTapOn grid) taps
pair_lies grid cells component low high taps rises h =
    let x = h.column.x in
    let power : Tap = record { piece = h.power; along = x; low = low; high = high } in
    let lower : Tap = record { piece = h.ground; along = x; low = neg_ℤ high; high = neg_ℤ low } in
    subst (λ (z : List Tap). All (IsTapOn grid) z) (sym h.are)
    (All-cons (IsTapOn grid) power (lower ∷ [])
    (lies_there grid h.domain.power power h.column.lower h.column.upper h.power_rail, rises)
    (All-cons (IsTapOn grid) lower []
    (lies_there grid h.domain.ground lower h.column.lower h.column.upper h.ground_rail, omega (arith, ints)) (All-nil (IsTapOn grid))))

pub taps_of_one : (grid : Grid) (cells : Cells) (bias : Bias) → BiasKeeps bias → (component : Component) (taps : List Tap) → AreTapsFor grid cells bias component taps
    → All (IsTapOn grid) taps
taps_of_one grid cells bias keeps component taps (low, high, range, by_high) = by_cases by_high
  where
    by_cases : ((high ≡ pos 0) × (taps ≡ [])) ⊎ ((high ≡ pos 0 → ⊥) × AreTapsOf grid cells component low high taps) → All (IsTapOn grid) taps
    by_cases (inl (_, none)) = subst (λ (z : List Tap). All (IsTapOn grid) z) (sym none) (All-nil (IsTapOn grid))
    by_cases (inr (_, are)) = pair_lies grid cells component low high taps (range_rises bias keeps component low high range) are

pub taps_lie : (grid : Grid) (cells : Cells) (bias : Bias) → BiasKeeps bias → (components : List Component) (taps : List Tap) → AreTaps grid cells bias components taps
    → All (IsTapOn grid) taps
taps_lie grid cells bias keeps components taps are =
    all_in_order (AreTapsFor grid cells bias) (IsTapOn grid) (λ component ts h. taps_of_one grid cells bias keeps component ts h) components taps are

-- pads of a bias file, and taps that lie on their pieces
pub is_drawing_with : (grid : Grid) (tech : Tech) (bias : Bias) (pads : List PadOn) (taps : List Tap) → TechKeeps tech → GridKeeps grid tech
    → ArePads grid tech bias pads → All (IsTapOn grid) taps → IsDrawing (drawing_of grid pads taps) tech
is_drawing_with grid tech bias pads taps tech_keeps keeps pads_are lie = record {
  pieces = keeps.pieces;
  stacks = keeps.stacks;
  pads = pads_lie grid tech bias pads pads_are;
  taps = λ k d within. (lie k d within).0;
  ranges = λ k d within. (lie k d within).1;
  few_layers = tech_keeps.few_layers;
  few_pieces = keeps.few_pieces;
  few_stacks = keeps.few_stacks;
}

pub is_drawing : (grid : Grid) (tech : Tech) (cells : Cells) (bias : Bias) (components : List Component) (pads : List PadOn) (taps : List Tap) → TechKeeps tech
    → GridKeeps grid tech → BiasKeeps bias → ArePads grid tech bias pads → AreTaps grid cells bias components taps → IsDrawing (drawing_of grid pads taps) tech
is_drawing grid tech cells bias components pads taps tech_keeps keeps bias_keeps pads_are taps_are =
    is_drawing_with grid tech bias pads taps tech_keeps keeps pads_are (taps_lie grid cells bias bias_keeps components taps taps_are)

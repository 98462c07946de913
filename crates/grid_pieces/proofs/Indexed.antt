-- What is found across a line is what is blocked on it.
use Rattle.std.proofs.Common.{◌≡◌, ◌↔◌, IsTrue, ◌==◌, ℕ, ℤ, ◌-ℤ◌, ◌+ℤ◌, ◌<ℤ◌, List, map, filter, Some, subst, refl, sym, ap, ◌∙◌, eq-eqb}
use Rattle.std.specs.List.{filter_map}
use Rattle.std.specs.List.Sorted.{IsPermutation}
use Rattle.std.specs.Int.{int_max, int_min}
use Rattle.geom_rect.specs.Drawn.{half}
use Rattle.geom_rect.specs.Rect.{ShareArea}
use Rattle.geom_rect.specs.Run.{HasCell, IsHeld}
use Rattle.geom_rect.specs.declared.direction.Axis.TheVariants.{X}
use Rattle.geom_rect.specs.declared.rect.Rect.{Rect}
use Rattle.geom_rect.specs.declared.run.Run.{Run}
use Rattle.lef_tech.specs.declared.layer.LayerRef.{LayerRef}
use Rattle.lef_tech.specs.declared.layer.LayerRef.TheVariants.{Routing, Cut}
use Rattle.run_index.specs.Entry.{share_cell, lies_across, along_of}
use Rattle.run_index.specs.declared.entry.Entry.{Entry}
use Rattle.grid_pieces.specs.declared.line.Line.{Line}
use Rattle.grid_pieces.specs.declared.piece.Block.{Block}
use Rattle.grid_pieces.specs.Line.{cell_rect, along, across}
use Rattle.grid_pieces.specs.Piece.{IsBlocked}
use Rattle.grid_pieces.specs.inside.Blockages.{window_of, entry_on, entry_of, block_of, blocks_of, AreIndexed, BlockAlike}
use Rattle.grid_pieces.specs.Laws.Amongst.{Among-map, Among-filter, Among-filter_map, Among-permutation, Among-same, same_value, none_is_no_value}
use Rattle.grid_pieces.specs.Laws.Found.{and_both, and_of, wide_iff, place_of_true}
use Rattle.grid_pieces.specs.Laws.Geometry.{lies_over}

-- the blockage lies over the cell
Lies : Line → ℤ → LayerRef → Rect → Type 0
Lies line t layer grown = (layer ≡ Routing line.layer) × ShareArea (cell_rect line t) grown

-- its entry is found across the line, and has the cell along
Finds : Line → ℤ → LayerRef → Rect → Type 0
Finds line t layer grown = (e : Entry) × (entry_on line.axis grown layer ≡ Some e) × (IsTrue (lies_across line.layer (window_of line) e) × HasCell (along_of e) t)

-- chain of two
through : (A B C : Type 0) → A ↔ B → B ↔ C → A ↔ C
through A B C ab bc = (λ a. bc.0 (ab.0 a), λ c. ab.1 (bc.1 c))

Is_routing : LayerRef → Type 0
Is_routing (Routing k) = Unit {0}
Is_routing (Cut k) = ⊥

no_routing : (k l : ℕ) → Cut k ≡ Routing l → ⊥
unfolding Is_routing
no_routing k l e = subst Is_routing (sym e) tt

place_in : LayerRef → ℕ
place_in (Routing k) = k
place_in (Cut k) = k

same_place : (k l : ℕ) → Routing k ≡ Routing l → k ≡ l
unfolding place_in
same_place k l e = ap place_in e

over : (line : Line) (t : ℤ) (grown : Rect) → ShareArea (cell_rect line t) grown
    ↔ ((int_max (window_of line).from (across line.axis grown).from <ℤ int_min (window_of line).to (across line.axis grown).to) × HasCell (along line.axis grown) t)
over line t grown = lies_over line.axis t (line.centre -ℤ half line.width) (line.centre +ℤ half line.width) grown

finds_iff : (line : Line) (t : ℤ) (layer : LayerRef) (grown : Rect) → Finds line t layer grown ↔ Lies line t layer grown
unfolding Lies Finds
finds_iff line t (Cut k) grown = (λ w. absurd (none_is_no_value w.0 w.1), λ w. absurd (no_routing k line.layer w.0))
finds_iff line t (Routing k) grown = (there, back)
  where
    entry : Entry
    entry = record { group = k; across = across line.axis grown; along = along line.axis grown }

    there : Finds line t (Routing k) grown → Lies line t (Routing k) grown
    there w =
        let is : w.0 ≡ entry = same_value w.0 entry (sym w.1) in
        let found : IsTrue (lies_across line.layer (window_of line) entry) = subst (λ e. IsTrue (lies_across line.layer (window_of line) e)) is w.2.0 in
        let both = and_both (k == line.layer) (share_cell (across line.axis grown) (window_of line)) found in
        let wide = (wide_iff (across line.axis grown) (window_of line)).0 both.1 in
        (ap Routing (place_of_true k line.layer both.0), (over line t grown).1 (wide, subst (λ e. HasCell (along_of e) t) is w.2.1))

    back : Lies line t (Routing k) grown → Finds line t (Routing k) grown
    back w =
        let has = (over line t grown).0 w.1 in
        let wide = (wide_iff (across line.axis grown) (window_of line)).1 has.0 in
        (entry, refl, (and_of (k == line.layer) (share_cell (across line.axis grown) (window_of line)) (eq-eqb k line.layer (same_place k line.layer w.0)) wide, has.1))

-- what is found along an axis in an index of blockages is what is blocked on lines along this axis
pub found_iff : (blocks : List Block) (index : List Entry) (line : Line) (t : ℤ) → IsPermutation (filter_map (entry_of line.axis) blocks) index
    → IsHeld (map along_of (filter (lies_across line.layer (window_of line)) index)) t ↔ IsBlocked blocks line t
unfolding Lies Finds
found_iff blocks index line t moved =
    let test = lies_across line.layer (window_of line) in
    let Has : Run → Type 0 = λ r. HasCell r t in
    let At : Entry → Type 0 = λ e. HasCell (along_of e) t in
    let Both : Entry → Type 0 = λ e. IsTrue (test e) × HasCell (along_of e) t in
    through _ _ _ (Among-map along_of Has (filter test index))
    (through _ _ _ (Among-filter test At index)
    (through _ _ _ (Among-permutation Both (filter_map (entry_of line.axis) blocks) index moved)
    (through _ _ _ (Among-filter_map (entry_of line.axis) Both blocks)
    (Among-same (λ (b : Block). Finds line t b.layer b.grown) (λ (b : Block). Lies line t b.layer b.grown) blocks (λ b. finds_iff line t b.layer b.grown)))))

-- the blockages that an index stands for block the same cells
block_back : (line : Line) (t : ℤ) (layer : LayerRef) (grown : Rect) →
    ((e : Entry) × (entry_on X grown layer ≡ Some e) × Lies line t (Routing e.group) (block_of e).grown) ↔ Lies line t layer grown
unfolding Lies
block_back line t (Cut k) grown = (λ w. absurd (none_is_no_value w.0 w.1), λ w. absurd (no_routing k line.layer w.0))
block_back line t (Routing k) grown =
    let entry : Entry = record { group = k; across = across X grown; along = along X grown } in (
      λ w. subst (λ (e : Entry). (Routing e.group ≡ Routing line.layer) × ShareArea (cell_rect line t) (block_of e).grown) (same_value w.0 entry (sym w.1)) w.2,
      λ w. (entry, refl, w),
    )

pub index_blocks : (blocks : List Block) (index : List Entry) → IsPermutation (filter_map (entry_of X) blocks) index → BlockAlike (blocks_of index) blocks
unfolding Lies
index_blocks blocks index moved line t =
    let Over : Block → Type 0 = λ b. Lies line t b.layer b.grown in
    let Of : Entry → Type 0 = λ e. Lies line t (Routing e.group) (block_of e).grown in
    through _ _ _ (Among-map block_of Over index)
    (through _ _ _ (Among-permutation Of (filter_map (entry_of X) blocks) index moved)
    (through _ _ _ (Among-filter_map (entry_of X) Of blocks)
    (Among-same (λ (b : Block). (e : Entry) × (entry_of X b ≡ Some e) × Of e) Over blocks (λ b. block_back line t b.layer b.grown))))

-- what is found in the index along the line's axis is what is blocked by the blockages that both indexes have
pub found_blocked : (along_x along_y index : List Entry) (viewed : List Block) (line : Line) (window : Run) (runs : List Run) →
    (indexed : AreIndexed along_x along_y) → IsPermutation (filter_map (entry_of line.axis) indexed.0) index → blocks_of along_x ≡ viewed
    → window ≡ window_of line → runs ≡ map along_of (filter (lies_across line.layer window) index) → (t : ℤ) → IsHeld runs t ↔ IsBlocked viewed line t
found_blocked along_x along_y index viewed line window runs indexed moved view is_window is_found t =
    let blocks = indexed.0 in
    let found : runs ≡ map along_of (filter (lies_across line.layer (window_of line)) index) =
    is_found ∙ ap (λ w. map along_of (filter (lies_across line.layer w) index)) is_window in
    let same : IsBlocked viewed line t ↔ IsBlocked blocks line t = subst (λ v. IsBlocked v line t ↔ IsBlocked blocks line t) view (index_blocks blocks along_x indexed.1 line t) in
    let held : IsHeld runs t ↔ IsBlocked blocks line t = subst (λ rs. IsHeld rs t ↔ IsBlocked blocks line t) (sym found) (found_iff blocks index line t moved) in
    (λ w. same.1 (held.0 w), λ w. held.1 (same.0 w))

-- What is found across a flat bar lies over it.
use Rattle.std.proofs.Common.{◌≡◌, ◌↔◌, IsTrue, Bool, true, false, ◌&&◌, ◌==◌, ℕ, ◌<◌, ℤ, ◌<ℤ◌, List, map, filter, All, Contains, length, get_or, subst, refl, sym, ap, ◌∙◌, arith, eq-eqb}
use Rattle.std.specs.List.Sorted.{IsPermutation}
use Rattle.std.specs.Int.{int_max, int_min}
use Rattle.std.proofs.lemmas.List.{get_or-map, get_or_default, length-map}
use Rattle.std.proofs.lemmas.List.Elements.{All-contains}
use Rattle.std.proofs.lemmas.List.Sorted.{All-permutation}
use Rattle.geom_rect.specs.Run.{HasCell, IsHeld}
use Rattle.geom_rect.specs.declared.rect.Rect.{Rect}
use Rattle.geom_rect.specs.declared.run.Run.{Run}
use Rattle.run_index.specs.Entry.{share_cell, lies_across, along_of}
use Rattle.run_index.specs.declared.entry.Entry.{Entry}
use Rattle.grid_pieces.specs.Piece.{Among}
use Rattle.grid_pieces.specs.Laws.Amongst.{Among-map, Among-filter, Among-permutation}
use Rattle.grid_pieces.specs.Laws.Found.{and_both, and_of, wide_iff}
use Rattle.grid_stacks.specs.declared.bar.Bar.{Bar}
use Rattle.grid_stacks.specs.inside.Inner.{entry_of, rect_of, AreAlone}
use Rattle.grid_stacks.specs.inside.Standing.{IsOverCell}

-- an index of the rectangles' entries stands for the same rectangles
pub same_rects : (rects : List Rect) (index : List Entry) → IsPermutation (map entry_of rects) index → (r : Rect) → Contains (map rect_of index) r ↔ Contains rects r
same_rects rects index moved r = (λ w. from_some (there w), λ w. into_some (back w))
  where
    from_some : Among (λ (x : Rect). x ≡ r) rects → Contains rects r
    from_some w = subst (Contains rects) w.2 w.1

    into_some : Among (λ (x : Rect). x ≡ r) (map rect_of index) → Contains (map rect_of index) r
    into_some w = subst (Contains (map rect_of index)) w.2 w.1

    there : Contains (map rect_of index) r → Among (λ (x : Rect). x ≡ r) rects
    there w =
        let a = (Among-map rect_of (λ (x : Rect). x ≡ r) index).0 (r, w, refl) in
        let b = (Among-permutation (λ (e : Entry). rect_of e ≡ r) (map entry_of rects) index moved).0 a in
        (Among-map entry_of (λ (e : Entry). rect_of e ≡ r) rects).0 b

    back : Contains rects r → Among (λ (x : Rect). x ≡ r) (map rect_of index)
    back w =
        let a = (Among-map entry_of (λ (e : Entry). rect_of e ≡ r) rects).1 (r, w, refl) in
        let b = (Among-permutation (λ (e : Entry). rect_of e ≡ r) (map entry_of rects) index moved).1 a in
        (Among-map rect_of (λ (x : Rect). x ≡ r) index).1 b

-- and has one group
pub one_group : (rects : List Rect) (index : List Entry) → IsPermutation (map entry_of rects) index → AreAlone index
one_group rects index moved = All-permutation (λ (e : Entry). e.group ≡ 0) (map entry_of rects) index moved
    (λ k d within. ap (λ (e : Entry). e.group) (get_or-map_any rects k d within))
  where
    get_or-map_any : (rects : List Rect) (k : ℕ) (d : Entry) → k < length (map entry_of rects) → get_or (map entry_of rects) k d ≡ entry_of (get_or rects k (rect_of d))
    get_or-map_any rects k d within =
        let in_rects : k < length rects = omega (arith, length-map rects entry_of) in
        get_or_default (map entry_of rects) k d (entry_of (rect_of d)) within ∙ get_or-map entry_of rects k (rect_of d) (entry_of (rect_of d)) in_rects

-- what is found lies over the bar
pub found_over : (index : List Entry) (viewed : List Rect) (flat : Bar) (runs : List Run) → AreAlone index → map rect_of index ≡ viewed
    → runs ≡ map along_of (filter (lies_across 0 (record { from = flat.low; to = flat.high })) index) → (t : ℤ) → IsHeld runs t ↔ IsOverCell flat viewed t
found_over index viewed flat runs alone view is t = (there, back)
  where
    window : Run
    window = record { from = flat.low; to = flat.high }

    there : IsHeld runs t → IsOverCell flat viewed t
    there w =
        let a = (Among-map along_of (λ (r : Run). HasCell r t) (filter (lies_across 0 window) index)).0 (subst (λ rs. IsHeld rs t) is w) in
        let b = (Among-filter (lies_across 0 window) (λ (e : Entry). HasCell (along_of e) t) index).0 a in
        let lies = and_both (b.0.group == 0) (share_cell b.0.across window) b.2.0 in
        let wide = (wide_iff b.0.across window).0 lies.1 in
        subst (λ rs. IsOverCell flat rs t) view ((Among-map rect_of (λ r. (int_max flat.low r.y1 <ℤ int_min flat.high r.y2) × HasCell (record { from = r.x1; to = r.x2 }) t) index).1 (b.0, b.1, (wide, b.2.1)))

    back : IsOverCell flat viewed t → IsHeld runs t
    back w =
        let a = (Among-map rect_of (λ r. (int_max flat.low r.y1 <ℤ int_min flat.high r.y2) × HasCell (record { from = r.x1; to = r.x2 }) t) index).0
        (subst (λ rs. IsOverCell flat rs t) (sym view) w) in
        let one : a.0.group ≡ 0 = All-contains (λ (e : Entry). e.group ≡ 0) index a.0 alone a.1 in
        let lies = and_of (a.0.group == 0) (share_cell a.0.across window) (eq-eqb a.0.group 0 one) ((wide_iff a.0.across window).1 a.2.0) in
        let b = (Among-filter (lies_across 0 window) (λ (e : Entry). HasCell (along_of e) t) index).1 (a.0, a.1, (lies, a.2.1)) in
        subst (λ rs. IsHeld rs t) (sym is) ((Among-map along_of (λ (r : Run). HasCell r t) (filter (lies_across 0 window) index)).1 b)

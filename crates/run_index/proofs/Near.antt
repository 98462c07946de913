-- What lies across a window is among what touches it.
use Rattle.std.proofs.Common.{◌≡◌, ℕ, zero, suc, ◌<◌, Bool, true, false, IsTrue, ◌&&◌, ◌==◌, int_le, List, [], ◌∷◌, map, filter, length, get_or, All, ℤ, refl, sym, ap, ◌∙◌, subst, cond, arith}
use Rattle.std.proofs.lemmas.Int.{ints, clamps}
use Rattle.geom_rect.specs.declared.run.Run.{Run}
use Rattle.rect_index.specs.declared.entry.Entry.{Entry as Boxed}
use Rattle.rect_index.specs.Entry.{share, touches, is_at, item_of}
use Rattle.run_index.specs.declared.entry.Entry.{Entry}
use Rattle.run_index.specs.Entry.{share_cell, lies_across}
use Rattle.run_index.specs.inside.Boxed.{box_of, window_of, AreBoxed}

-- ## runs as rectangles

true_of : (b : Bool) → (b ≡ false → ⊥) → b ≡ true
true_of true h = refl
true_of false h = absurd (h refl)

false_of : (b : Bool) → (IsTrue b → ⊥) → b ≡ false
false_of true h = absurd (h refl)
false_of false h = refl

-- Runs that touch nowhere have no cell in common.
apart : (a b : Run) → share b.from b.to a.from a.to ≡ false → share_cell a b ≡ false
apart a b misses = by_low (int_le a.from b.to) (int_le b.from a.to) refl refl misses
  where
    by_low : (p q : Bool) → int_le a.from b.to ≡ p → int_le b.from a.to ≡ q → (p && q) ≡ false → share_cell a b ≡ false
    by_low true true e f h = absurd (let t : true ≡ false = h in cc)
    by_low true false e f h = false_of (share_cell a b) (λ t. omega (arith, ints, clamps))
    by_low false q e f h = false_of (share_cell a b) (λ t. omega (arith, ints, clamps))

and_true : (b : Bool) → (b && true) ≡ b
and_true true = refl
and_true false = refl

left_out : (p q r : Bool) → (p && q) ≡ false → (q ≡ false → r ≡ false) → (p && r) ≡ false
left_out false q r misses then = refl
left_out true q r misses then = then misses

-- What the index leaves out does not lie across.
pub far : (group : ℕ) (window : Run) (entry : Entry) → is_at group (window_of window) (box_of entry) ≡ false → lies_across group window entry ≡ false
far group window entry misses =
    left_out (entry.group == group) (touches (window_of window) (window_of entry.across)) (share_cell entry.across window) misses
    (λ h. apart entry.across window (sym (and_true (share window.from window.to entry.across.from entry.across.to)) ∙ h))

-- ## what is left of a list

step : {X Y : Type 0} (p : X → Bool) (q : Y → Bool) (item : Y → X) (y : Y) (all : List X) (b : Bool) → q y ≡ b → (b ≡ false → p (item y) ≡ false)
    → (rest : List Y) → filter p (map item rest) ≡ all → filter p (map item (cond b (y ∷ rest) rest)) ≡ cond (p (item y)) (item y ∷ all) all
step p q item y all true e none rest same = ap (λ z. cond (p (item y)) (item y ∷ z) z) same
step p q item y all false e none rest same = same ∙ sym (ap (λ z. cond z (item y ∷ all) all) (none refl))

-- A test of the items needs no look at what another test leaves out and it would leave out too.
pub kept_of_kept : {X Y : Type 0} (p : X → Bool) (q : Y → Bool) (item : Y → X) (ys : List Y) → All (λ y. q y ≡ false → p (item y) ≡ false) ys
    → filter p (map item (filter q ys)) ≡ filter p (map item ys)
kept_of_kept p q item [] far = refl
kept_of_kept p q item (y ∷ ys) far =
    step p q item y (filter p (map item ys)) (q y) refl (λ e. far 0 y (omega arith) e) (filter q ys)
    (kept_of_kept p q item ys (λ k d below. far (suc k) d (omega arith)))

boxed_far : (group : ℕ) (window : Run) (b : Boxed Entry) → b ≡ box_of b.item → is_at group (window_of window) b ≡ false → lies_across group window (item_of b) ≡ false
boxed_far group window b is misses = far group window b.item (ap (is_at group (window_of window)) (sym is) ∙ misses)

-- What lies across is found among what touches.
pub found_near : (group : ℕ) (window : Run) (boxes : List (Boxed Entry)) → AreBoxed boxes
    → filter (lies_across group window) (map item_of (filter (is_at group (window_of window)) boxes)) ≡ filter (lies_across group window) (map item_of boxes)
found_near group window boxes are =
    kept_of_kept (lies_across group window) (is_at group (window_of window)) item_of boxes (λ k d below. boxed_far group window (get_or boxes k d) (are k d below))

-- ## the boxes of entries

pub are_boxed : (entries : List Entry) → AreBoxed (map box_of entries)
are_boxed [] k d below = absurd (omega arith)
are_boxed (x ∷ xs) zero d below = refl
are_boxed (x ∷ xs) (suc k) d below = are_boxed xs k d (omega arith)

pub items_of_boxes : (entries : List Entry) → map item_of (map box_of entries) ≡ entries
items_of_boxes [] = refl
items_of_boxes (x ∷ xs) = ap (λ z. x ∷ z) (items_of_boxes xs)

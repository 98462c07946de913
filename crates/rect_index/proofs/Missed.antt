-- What bounds miss is not found.
use Rattle.std.proofs.Common.{◌≡◌, ℕ, ◌<◌, ◌≤◌, ◌≤ℤ◌, ◌<ℤ◌, ◌⊎◌, inl, inr, Bool, true, false, IsTrue, ◌&&◌, ◌==◌, int_le, List, [], ◌∷◌, filter, find, None, Some, ℤ, suc, length, get_or, cond, refl, ap, ◌∙◌, arith}
use Rattle.std.proofs.lemmas.Bool.{ne_eqb}
use Rattle.std.proofs.Math.Bool.{and-false}
use Rattle.std.proofs.lemmas.Int.{ints}
use Rattle.geom_rect.specs.declared.rect.Rect.{Rect}
use Rattle.rect_index.specs.declared.bounds.Bounds.{Bounds}
use Rattle.rect_index.specs.declared.entry.Entry.{Entry}
use Rattle.rect_index.specs.Entry.{share, touches, is_at}
use Rattle.rect_index.specs.inside.Tree.{IsWithin, AreWithin, Misses}

other_group : (a b : ℕ) → (a < b) ⊎ (b < a) → (a == b) ≡ false
other_group a b (inl less) = ne_eqb a b (λ same. omega arith)
other_group a b (inr less) = ne_eqb a b (λ same. omega arith)

false_of : (b : Bool) → (IsTrue b → ⊥) → b ≡ false
false_of true h = absurd (h refl)
false_of false h = refl

not_le : (a b : ℤ) → b <ℤ a → int_le a b ≡ false
not_le a b less = false_of (int_le a b) (λ t. omega (arith, ints))

no_point : (low high from to : ℤ) → (high <ℤ from) ⊎ (to <ℤ low) → share low high from to ≡ false
no_point low high from to (inl h) = ap (λ b. b && int_le low to) (not_le from high h)
no_point low high from to (inr h) = ap (λ b. int_le from high && b) (not_le low to h) ∙ and-false (int_le from high)

other_side : (low high group a : ℕ) → low ≤ a → a ≤ high → (group < low) ⊎ (high < group) → (a < group) ⊎ (group < a)
other_side low high group a at_least at_most (inl h) = inr (omega arith)
other_side low high group a at_least at_most (inr h) = inl (omega arith)

apart : (low high from to a b : ℤ) → from ≤ℤ a → b ≤ℤ to → (high <ℤ from) ⊎ (to <ℤ low) → (high <ℤ a) ⊎ (b <ℤ low)
apart low high from to a b at_least at_most (inl h) = inl (omega (arith, ints))
apart low high from to a b at_least at_most (inr h) = inr (omega (arith, ints))

no_x : (window rect : Rect) → share window.x1 window.x2 rect.x1 rect.x2 ≡ false → touches window rect ≡ false
no_x window rect none = ap (λ b. b && share window.y1 window.y2 rect.y1 rect.y2) none

no_y : (window rect : Rect) → share window.y1 window.y2 rect.y1 rect.y2 ≡ false → touches window rect ≡ false
no_y window rect none = ap (λ b. share window.x1 window.x2 rect.x1 rect.x2 && b) none ∙ and-false (share window.x1 window.x2 rect.x1 rect.x2)

not_touched : {T : Type 0} (group : ℕ) (window : Rect) (entry : Entry T) → touches window entry.rect ≡ false → is_at group window entry ≡ false
not_touched group window entry none = ap (λ b. (entry.group == group) && b) none ∙ and-false (entry.group == group)

pub missed_one : {T : Type 0} (bounds : Bounds) (group : ℕ) (window : Rect) (entry : Entry T) → Misses bounds group window
    → IsWithin bounds entry → is_at group window entry ≡ false
missed_one bounds group window entry (inl h) within =
    let other : (entry.group == group) ≡ false = other_group entry.group group (other_side bounds.least bounds.greatest group entry.group within.least within.greatest h) in
    ap (λ b. b && touches window entry.rect) other
missed_one bounds group window entry (inr (inl h)) within =
    not_touched group window entry (no_x window entry.rect
    (no_point window.x1 window.x2 entry.rect.x1 entry.rect.x2 (apart window.x1 window.x2 bounds.x1 bounds.x2 entry.rect.x1 entry.rect.x2 within.x1 within.x2 h)))
missed_one bounds group window entry (inr (inr h)) within =
    not_touched group window entry (no_y window entry.rect
    (no_point window.y1 window.y2 entry.rect.y1 entry.rect.y2 (apart window.y1 window.y2 bounds.y1 bounds.y2 entry.rect.y1 entry.rect.y2 within.y1 within.y2 h)))

none_pass : {X : Type 0} (p : X → Bool) (xs : List X) → ((k : ℕ) (d : X) → k < length xs → p (get_or xs k d) ≡ false) → filter p xs ≡ []
none_pass p [] h = refl
none_pass p (x ∷ xs) h =
    let first : p x ≡ false = h 0 x (omega arith) in
    ap (λ b. cond b (x ∷ filter p xs) (filter p xs)) first ∙ none_pass p xs (λ k d within. h (suc k) d (omega arith))

none_first : {X : Type 0} (p : X → Bool) (xs : List X) → ((k : ℕ) (d : X) → k < length xs → p (get_or xs k d) ≡ false) → find p xs ≡ None
none_first p [] h = refl
none_first p (x ∷ xs) h =
    let first : p x ≡ false = h 0 x (omega arith) in
    ap (λ b. cond b (Some x) (find p xs)) first ∙ none_first p xs (λ k d within. h (suc k) d (omega arith))

pub missed_all : {T : Type 0} (bounds : Bounds) (group : ℕ) (window : Rect) (entries : List (Entry T)) → Misses bounds group window
    → AreWithin bounds entries → filter (is_at group window) entries ≡ []
missed_all bounds group window entries misses within =
    none_pass (is_at group window) entries (λ k d in_list. missed_one bounds group window (get_or entries k d) misses (within k d in_list))

pub missed_first : {T : Type 0} (bounds : Bounds) (group : ℕ) (window : Rect) (entries : List (Entry T)) → Misses bounds group window
    → AreWithin bounds entries → find (is_at group window) entries ≡ None
missed_first bounds group window entries misses within =
    none_first (is_at group window) entries (λ k d in_list. missed_one bounds group window (get_or entries k d) misses (within k d in_list))

-- When an entry is at a column, and what a search finds.
use Rattle.std.proofs.Common.{◌≡◌, ◌↔◌, IsTrue, Bool, true, false, ◌==◌, int_le, ℕ, zero, suc, ◌<◌, ◌≤ℤ◌, ℤ, List, [], ◌∷◌, length, get_or, find, Some, None, cond, refl, sym, subst, eq-eqb, arith}
use Rattle.std.proofs.lemmas.Int.{ints}
use Rattle.grid_pieces.specs.Laws.Found.{and_both, and_of, place_of_true}
use Rattle.grid_pieces.specs.Laws.Amongst.{none_is_no_value, same_value}
use Rattle.grid_taps.specs.declared.column.Column.{Column}
use Rattle.rect_index.specs.declared.entry.Entry.{Entry}
use Rattle.rect_index.specs.Entry.{share, touches}
use Rattle.grid_taps.specs.Naming.{At}
use Rattle.grid_taps.specs.inside.Index.{window_of, is_at}

pub le_iff : (a b : ℤ) → IsTrue (int_le a b) ↔ (a ≤ℤ b)
le_iff a b = (λ h. omega (arith, ints), λ h. sym (omega (arith, ints)))

pub share_iff : (low high from to : ℤ) → IsTrue (share low high from to) ↔ ((from ≤ℤ high) × (low ≤ℤ to))
share_iff low high from to = (
  λ h. let both = and_both (int_le from high) (int_le low to) h in ((le_iff from high).0 both.0, (le_iff low to).0 both.1),
  λ h. and_of (int_le from high) (int_le low to) ((le_iff from high).1 h.0) ((le_iff low to).1 h.1),
)

-- the entry is of the group, and its rectangle has a point of the column
abbrev pub IsAt : ℕ → Column → Entry ℕ → Type 0
IsAt group column entry = (entry.group ≡ group) × ((entry.rect.x1 ≤ℤ column.x) × (column.x ≤ℤ entry.rect.x2))
    × ((entry.rect.y1 ≤ℤ column.upper) × (column.lower ≤ℤ entry.rect.y2))

pub at_iff : (group : ℕ) (column : Column) (entry : Entry ℕ) → IsTrue (is_at group column entry) ↔ IsAt group column entry
at_iff group column entry = (there, back)
  where
    xs : IsTrue (share column.x column.x entry.rect.x1 entry.rect.x2) ↔ ((entry.rect.x1 ≤ℤ column.x) × (column.x ≤ℤ entry.rect.x2))
    xs = share_iff column.x column.x entry.rect.x1 entry.rect.x2

    ys : IsTrue (share column.lower column.upper entry.rect.y1 entry.rect.y2) ↔ ((entry.rect.y1 ≤ℤ column.upper) × (column.lower ≤ℤ entry.rect.y2))
    ys = share_iff column.lower column.upper entry.rect.y1 entry.rect.y2

    there : IsTrue (is_at group column entry) → IsAt group column entry
    there h =
        let both = and_both (entry.group == group) (touches (window_of column) entry.rect) h in
        let met = and_both (share column.x column.x entry.rect.x1 entry.rect.x2) (share column.lower column.upper entry.rect.y1 entry.rect.y2) both.1 in
        (place_of_true entry.group group both.0, xs.0 met.0, ys.0 met.1)

    back : IsAt group column entry → IsTrue (is_at group column entry)
    back (same, in_x, in_y) =
        and_of (entry.group == group) (touches (window_of column) entry.rect) (eq-eqb entry.group group same)
        (and_of (share column.x column.x entry.rect.x1 entry.rect.x2) (share column.lower column.upper entry.rect.y1 entry.rect.y2) (xs.1 in_x) (ys.1 in_y))

-- ## what find gives

abbrev pub FoundAt : {X : Type 0} → (X → Bool) → List X → X → Type 0
FoundAt {X} p xs x = (i : ℕ) × At xs i x × IsTrue (p x) × ((j : ℕ) (d : X) → j < i → p (get_or xs j d) ≡ false)

step : {X : Type 0} (p : X → Bool) (y : X) (ys : List X) (i : ℕ) → p y ≡ false → ((j : ℕ) (d : X) → j < i → p (get_or ys j d) ≡ false)
    → (j : ℕ) (d : X) → j < suc i → p (get_or (y ∷ ys) j d) ≡ false
step p y ys i none before zero d less = none
step p y ys i none before (suc j) d less = before j d (omega arith)

first_by : {X : Type 0} (p : X → Bool) (y : X) (ys : List X) (x : X) (b : Bool) → p y ≡ b → cond b (Some y) (find p ys) ≡ Some x
    → (find p ys ≡ Some x → FoundAt p ys x) → FoundAt p (y ∷ ys) x
first_by {X} p y ys x true is e rest =
    let same : y ≡ x = same_value y x e in
    (0, (omega arith, same), subst (λ (z : X). IsTrue (p z)) same is, λ j d less. absurd (omega arith))
first_by {X} p y ys x false is e rest =
    let behind = rest e in
    (suc behind.0, (omega (arith, behind.1.0), behind.1.1), behind.2, step p y ys behind.0 is behind.3)

pub found_first : {X : Type 0} (p : X → Bool) (xs : List X) (x : X) → find p xs ≡ Some x → FoundAt p xs x
found_first p [] x e = absurd (none_is_no_value x e)
found_first p (y ∷ ys) x e = first_by p y ys x (p y) refl e (λ r. found_first p ys x r)

none_by : {X : Type 0} (p : X → Bool) (y : X) (ys : List X) (b : Bool) → p y ≡ b → cond b (Some y) (find p ys) ≡ None
    → (find p ys ≡ None → (k : ℕ) (d : X) → k < length ys → p (get_or ys k d) ≡ false) → (k : ℕ) (d : X) → k < length (y ∷ ys) → p (get_or (y ∷ ys) k d) ≡ false
none_by p y ys true is e rest k d within = absurd (none_is_no_value y (sym e))
none_by p y ys false is e rest zero d within = is
none_by p y ys false is e rest (suc k) d within = rest e k d (omega arith)

pub found_none : {X : Type 0} (p : X → Bool) (xs : List X) → find p xs ≡ None → (k : ℕ) (d : X) → k < length xs → p (get_or xs k d) ≡ false
found_none p [] e k d within = absurd (omega arith)
found_none p (y ∷ ys) e k d within = none_by p y ys (p y) refl e (λ r. found_none p ys r) k d within

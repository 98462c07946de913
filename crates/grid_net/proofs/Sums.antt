-- Sums over nodes and over lists.
use Rattle.std.proofs.Math.Seq.{take-append_seam}
use Rattle.std.proofs.lemmas.List.Sums.{sum_by_more}
use Rattle.std.proofs.Common.{◌++◌, drop, sum, sym, ◌≡◌, ℕ, zero, suc, ◌+◌, ◌*◌, ◌<◌, ◌≤◌, inl, inr, arith, refl, ap, ◌∙◌, List, length, get_or, take, Bool, true, false, cond, eqb, eqb-true, add-one}
use Rattle.std.proofs.lemmas.Bool.{cases_eq}
use Rattle.grid_net.specs.Network.{over_nodes}

pub over_le : (n : ℕ) (f g : ℕ → ℕ) → ((i : ℕ) → f i ≤ g i) → over_nodes n f ≤ over_nodes n g
over_le zero f g h = omega arith
over_le (suc n) f g h = let a = over_le n f g h in let b = h n in omega arith

pub over_le_below : (n : ℕ) (f g : ℕ → ℕ) → ((i : ℕ) → i < n → f i ≤ g i) → over_nodes n f ≤ over_nodes n g
over_le_below zero f g h = omega arith
over_le_below (suc n) f g h = let a = over_le_below n f g (λ i l. h i (omega arith)) in let b = h n (omega arith) in omega arith

pub over_add : (n : ℕ) (f g : ℕ → ℕ) → over_nodes n (λ i. f i + g i) ≡ over_nodes n f + over_nodes n g
over_add zero f g = refl
over_add (suc n) f g = let a = over_add n f g in omega arith

pub over_same : (n m : ℕ) → over_nodes n (λ i. m) ≡ n * m
over_same zero m = omega arith
over_same (suc n) m = omega (arith, over_same n m)

pub no_more : (b : Bool) (m : ℕ) → cond b m 0 ≤ m
no_more true m = omega arith
no_more false m = omega arith

pub none_if : (b : Bool) (m : ℕ) → (b ≡ true → ⊥) → ◌≡◌ {A = ℕ} (cond b m 0) 0
none_if true m h = absurd (h refl)
none_if false m h = refl

none_beyond : (n a m : ℕ) → n ≤ a → over_nodes n (λ i. cond (eqb a i) m 0) ≡ 0
none_beyond zero a m h = refl
none_beyond (suc n) a m h =
    let rest = none_beyond n a m (omega arith) in
    let last = none_if (eqb a n) m (λ e. let s = eqb-true a n e in omega arith) in
    omega arith

-- One node alone adds its number.
pub once : (n a m : ℕ) → over_nodes n (λ i. cond (eqb a i) m 0) ≤ m
once zero a m = omega arith
once (suc n) a m = elim (cases_eq a n) [
  | inl e ↦ (let rest = none_beyond n a m (omega arith) in let last = no_more (eqb a n) m in omega arith)
  | inr ne ↦ (let rest = once n a m in let last = none_if (eqb a n) m (λ e. ne (eqb-true a n e)) in omega arith)
]

pub over_grows : (n m : ℕ) (f : ℕ → ℕ) → n ≤ m → over_nodes n f ≤ over_nodes m f
over_grows n zero f h = let e : n ≡ 0 = omega arith in omega (arith, ap (λ k. over_nodes k f) e)
over_grows n (suc m) f h = elim (cases_eq n (suc m)) [
  | inl e ↦ omega (arith, ap (λ k. over_nodes k f) e)
  | inr ne ↦ (let rest = over_grows n m f (omega arith) in omega arith)
]

-- What a slice of a vector writes back.
pub written_back : (size : ℕ) (new old : List ℕ) → length new ≡ size → take size (new ++ drop (length new) old) ≡ new
written_back size new old e = ap (λ n. take n (new ++ drop (length new) old)) (sym e) ∙ take-append_seam new (drop (length new) old)

-- The sum of the first numbers of a list that tells f.
pub sum_is_over : (xs : List ℕ) (f : ℕ → ℕ) (k : ℕ) → k ≤ length xs → ((i : ℕ) → i < k → get_or xs i 0 ≡ f i) → sum (take k xs) ≡ over_nodes k f
sum_is_over xs f zero l at = refl
sum_is_over xs f (suc k) l at =
    let more = sum_by_more (λ n. n) xs k 0 (omega arith) in
    let rest = sum_is_over xs f k (omega arith) (λ i m. at i (omega arith)) in
    let last = at k (omega arith) in
    ap (λ m. sum (take m xs)) (sym (add-one k)) ∙ omega (arith, more, rest, last)

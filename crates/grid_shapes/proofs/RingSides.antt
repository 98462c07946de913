-- The sides of the rings of a grid, one ring after another.
use Rattle.std.proofs.Common.{◌≡◌, ℕ, ◌+◌, ◌*◌, ◌<◌, ◌≤◌, ◌⊎◌, inl, inr, subst, arith, Bool, true, false, cond, List, [], ◌∷◌, ◌++◌, filter, take, length, get_or, ap, ◌∙◌}
use Rattle.std.specs.List.{flat_map}
use Rattle.std.proofs.lemmas.Bool.{cases_lt}
use Rattle.std.proofs.lemmas.List.{append-nil, get_or_default}
use Rattle.grid_plan.specs.declared.record.RingAt.{RingAt}
use Rattle.grid_shapes.specs.Shapes.{most_lines}
use Rattle.std.proofs.lemmas.List.Concat.{flat_map-append}
use Rattle.std.proofs.lemmas.List.Elements.{filter_more}

pub sides_more : {X A : Type 0} (f : X → List A) (p : X → Bool) (xs : List X) (i : ℕ) (d : X) → i < length xs → p (get_or xs i d) ≡ true
    → flat_map f (filter p (take (i + 1) xs)) ≡ flat_map f (filter p (take i xs)) ++ f (get_or xs i d)
sides_more f p xs i d within passes =
    ap (flat_map f) (filter_more p xs i d within ∙ ap (λ b. filter p (take i xs) ++ cond b (get_or xs i d ∷ []) []) passes)
    ∙ flat_map-append f (filter p (take i xs)) (get_or xs i d ∷ [])
    ∙ ap (λ ys. flat_map f (filter p (take i xs)) ++ ys) (append-nil (f (get_or xs i d)))

pub sides_kept : {X A : Type 0} (f : X → List A) (p : X → Bool) (xs : List X) (i : ℕ) (d : X) → i < length xs → p (get_or xs i d) ≡ false
    → flat_map f (filter p (take (i + 1) xs)) ≡ flat_map f (filter p (take i xs))
sides_kept f p xs i d within fails =
    ap (flat_map f) (filter_more p xs i d within ∙ ap (λ b. filter p (take i xs) ++ cond b (get_or xs i d ∷ []) []) fails ∙ append-nil (filter p (take i xs)))

-- One more ring, which has few nets where it is one of the grid's.
pub few_more : (grid : ℕ) (all : List RingAt) (i : ℕ) (d : RingAt) → i < length all
    → ((k : ℕ) (e : RingAt) → k < i → (get_or all k e).grid ≡ grid → 4 * length (get_or all k e).rule.nets ≤ most_lines)
    → ((get_or all i d).grid ≡ grid → 4 * length (get_or all i d).rule.nets ≤ most_lines)
    → (k : ℕ) (e : RingAt) → k < i + 1 → (get_or all k e).grid ≡ grid → 4 * length (get_or all k e).rule.nets ≤ most_lines
few_more grid all i d within before here k e less = by_place (cases_lt k i)
  where
    by_place : (k < i) ⊎ (i ≤ k) → (get_or all k e).grid ≡ grid → 4 * length (get_or all k e).rule.nets ≤ most_lines
    by_place (inl below) = before k e below
    by_place (inr reached) =
        let same : i ≡ k = omega arith in
        subst (λ (ring : RingAt). ring.grid ≡ grid → 4 * length ring.rule.nets ≤ most_lines) (get_or_default all i d e within ∙ ap (λ n. get_or all n e) same) here

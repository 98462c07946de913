-- Linear equations in whole numbers: fewer of them than unknowns hold at once for numbers that are not all 0.
use Rattle.std.proofs.Common.{◌≡◌, ◌≢◌, ℕ, zero, suc, ◌<◌, ◌⊎◌, inl, inr, ℤ, pos, negsuc, neg_ℤ, ◌+ℤ◌, ◌-ℤ◌, ◌*ℤ◌, arith, refl, ap, ◌∙◌, subst, List, [], ◌∷◌, length, map, get_or, All, Bool, true, false, cond, eqb, eq-eqb}
use Rattle.std.proofs.lemmas.Int.{ints}
use Rattle.std.proofs.lemmas.Bool.{cases_eq, ne_eqb}
use Rattle.std.proofs.lemmas.List.{get_or-map, length-map}
use Rattle.std.proofs.lemmas.List.Elements.{All-head, All-tail, All-nil, All-cons, All-map}
use Rattle.rounding.specs.Laws.{times_sum, times_neg}
use Rattle.solution_exists.specs.Laws.{times_comm, times_exchange, neg_times, no_product}

-- The left side of an equation in the first n unknowns.
pub record IsLinear (n : ℕ) (f : (ℕ → ℤ) → ℤ) : Type 0 where
  pub combined : (u v : ℤ) (x y : ℕ → ℤ) → f (λ i. u *ℤ x i +ℤ v *ℤ y i) ≡ u *ℤ f x +ℤ v *ℤ f y
  pub local : (x y : ℕ → ℤ) → ((i : ℕ) → i < n → x i ≡ y i) → f x ≡ f y

-- ---- how left sides are made
pub linear_at : (n j : ℕ) → j < n → IsLinear n (λ x. x j)
linear_at n j l = record { combined = λ u v x y. refl; local = λ x y same. same j l }

pub linear_nothing : (n : ℕ) → IsLinear n (λ x. pos 0)
linear_nothing n = record { combined = λ u v x y. omega (arith, ints); local = λ x y same. refl }

four : (a b c d : ℤ) → (a +ℤ b) +ℤ (c +ℤ d) ≡ (a +ℤ c) +ℤ (b +ℤ d)
four a b c d = omega (arith, ints)

module _ (n : ℕ) (f g : (ℕ → ℤ) → ℤ) (lf : IsLinear n f) where
  pub linear_sum : IsLinear n g → IsLinear n (λ x. f x +ℤ g x)
  linear_sum lg = record {
    combined = λ u v x y.
        (let a = lf.combined u v x y in
        let b = lg.combined u v x y in
        let s = times_sum u (f x) (g x) in
        let t = times_sum v (f y) (g y) in
        omega (arith, ints, a, b, s, t));
    local = λ x y same. (let a = lf.local x y same in let b = lg.local x y same in omega (arith, ints, a, b));
  }

  pub linear_times : (k : ℤ) → IsLinear n (λ x. k *ℤ f x)
  linear_times k = record {
    combined = λ u v x y.
        (let a = ap (λ z. k *ℤ z) (lf.combined u v x y) in
        let s = times_sum k (u *ℤ f x) (v *ℤ f y) in
        let e = times_exchange k u (f x) in
        let h = times_exchange k v (f y) in
        omega (arith, ints, a, s, e, h));
    local = λ x y same. ap (λ z. k *ℤ z) (lf.local x y same);
  }

  pub linear_neg : IsLinear n (λ x. neg_ℤ (f x))
  linear_neg = record {
    combined = λ u v x y.
        (let a = lf.combined u v x y in
        let s = times_neg u (f x) in
        let t = times_neg v (f y) in
        omega (arith, ints, a, s, t));
    local = λ x y same. ap neg_ℤ (lf.local x y same);
  }

  pub linear_if : (b : Bool) → IsLinear n (λ x. cond b (f x) (pos 0))
  linear_if true = lf
  linear_if false = linear_nothing n

-- ---- elimination
-- All unknowns are 0 but one, which is 1.
abbrev pub unit : ℕ → ℕ → ℤ
unit m i = cond (eqb i m) (pos 1) (pos 0)

pub unit_here : (m : ℕ) → unit m m ≡ pos 1
unit_here m = ap (λ (b : Bool). cond b (pos 1) (pos 0)) (eq-eqb m m refl)

pub unit_other : (m i : ℕ) → (i ≡ m → ⊥) → unit m i ≡ pos 0
unit_other m i ne = ap (λ (b : Bool). cond b (pos 1) (pos 0)) (ne_eqb i m ne)

-- Numbers that are not all 0, and meet each equation.
pub record Solved (n : ℕ) (fs : List ((ℕ → ℤ) → ℤ)) : Type 0 where
  pub x : ℕ → ℤ
  pub place : ℕ
  pub below : place < n
  pub nonzero : x place ≢ pos 0
  pub holds : All (λ f. f x ≡ pos 0) fs

-- One equation in which the last unknown stands, and the others.
record Pivot (m n : ℕ) (fs : List ((ℕ → ℤ) → ℤ)) : Type 0 where
  chosen : (ℕ → ℤ) → ℤ
  rest : List ((ℕ → ℤ) → ℤ)
  fewer : length fs ≡ suc (length rest)
  stands : chosen (unit m) ≢ pos 0
  linear : IsLinear n chosen
  all_linear : All (IsLinear n) rest
  together : (x : ℕ → ℤ) → chosen x ≡ pos 0 → All (λ f. f x ≡ pos 0) rest → All (λ f. f x ≡ pos 0) fs

nothing_or_not : (z : ℤ) → (z ≡ pos 0) ⊎ (z ≢ pos 0)
nothing_or_not (pos zero) = inl refl
nothing_or_not (pos (suc n)) = inr (λ e. omega (arith, ints, e))
nothing_or_not (negsuc n) = inr (λ e. omega (arith, ints, e))

pivot : (m n : ℕ) (fs : List ((ℕ → ℤ) → ℤ)) → All (IsLinear n) fs → All (λ f. f (unit m) ≡ pos 0) fs ⊎ Pivot m n fs
pivot m n [] all = inl (All-nil (λ f. f (unit m) ≡ pos 0))
pivot m n (f ∷ fs) all =
    elim (nothing_or_not (f (unit m))) [
      | inl none ↦ elim (pivot m n fs (All-tail (IsLinear n) f fs all)) [
        | inl nones ↦ inl (All-cons (λ f. f (unit m) ≡ pos 0) f fs none nones)
        | inr p ↦ inr (record {
          chosen = p.chosen;
          rest = f ∷ p.rest;
          fewer = omega (arith, p.fewer);
          stands = p.stands;
          linear = p.linear;
          all_linear = All-cons (IsLinear n) f p.rest (All-head (IsLinear n) f fs all) p.all_linear;
          together = λ x e h.
              All-cons (λ f. f x ≡ pos 0) f fs (All-head (λ f. f x ≡ pos 0) f p.rest h)
              (p.together x e (All-tail (λ f. f x ≡ pos 0) f p.rest h));
        })
      ]
      | inr some ↦ inr (record {
        chosen = f;
        rest = fs;
        fewer = refl;
        stands = some;
        linear = All-head (IsLinear n) f fs all;
        all_linear = All-tail (IsLinear n) f fs all;
        together = λ x e h. All-cons (λ f. f x ≡ pos 0) f fs e h;
      })
    ]

-- Two equations without the last unknown: m times one less k times the other, where m and k are what stands there.
without : ((ℕ → ℤ) → ℤ) → ℕ → ((ℕ → ℤ) → ℤ) → (ℕ → ℤ) → ℤ
without chosen m f x = chosen (unit m) *ℤ f x +ℤ neg_ℤ (f (unit m) *ℤ chosen x)

-- The numbers x are y and a multiple of the last unit.
moved : (m : ℕ) (f : (ℕ → ℤ) → ℤ) → IsLinear (suc m) f → (x y : ℕ → ℤ) → ((i : ℕ) → i < m → x i ≡ y i)
    → f x ≡ f y +ℤ (x m -ℤ y m) *ℤ f (unit m)
moved m f lf x y same =
    let a = lf.local x (λ i. pos 1 *ℤ y i +ℤ (x m -ℤ y m) *ℤ unit m i) (λ i l. by_place i l (cases_eq i m)) in
    let b = lf.combined (pos 1) (x m -ℤ y m) y (unit m) in
    omega (arith, ints, a, b)
  where
    by_place : (i : ℕ) → i < suc m → (i ≡ m) ⊎ (i ≡ m → ⊥) → x i ≡ pos 1 *ℤ y i +ℤ (x m -ℤ y m) *ℤ unit m i
    by_place i l (inl e) =
        let here : unit m i ≡ pos 1 = ap (unit m) e ∙ unit_here m in
        let p = ap (λ z. (x m -ℤ y m) *ℤ z) here in
        let q = ap x e in
        let r = ap y e in
        omega (arith, ints, p, q, r)
    by_place i l (inr ne) =
        let p = ap (λ z. (x m -ℤ y m) *ℤ z) (unit_other m i ne) in
        let q = same i (omega (arith, l, ne)) in
        omega (arith, ints, p, q)

linear_without : (m : ℕ) (chosen f : (ℕ → ℤ) → ℤ) → IsLinear (suc m) chosen → IsLinear (suc m) f
    → IsLinear m (without chosen m f)
unfolding without
linear_without m chosen f lc lf =
    let first = linear_times (suc m) f f lf (chosen (unit m)) in
    let second = linear_neg (suc m) (λ x. f (unit m) *ℤ chosen x) f (linear_times (suc m) chosen f lc (f (unit m))) in
    let whole = linear_sum (suc m) (λ x. chosen (unit m) *ℤ f x) (λ x. neg_ℤ (f (unit m) *ℤ chosen x)) first second in
    record {
      combined = whole.combined;
      local = λ x y same.
          (let t = x m -ℤ y m in
          let a = ap (λ z. chosen (unit m) *ℤ z) (moved m f lf x y same) in
          let b = ap (λ z. f (unit m) *ℤ z) (moved m chosen lc x y same) in
          let s = times_sum (chosen (unit m)) (f y) (t *ℤ f (unit m)) in
          let u = times_sum (f (unit m)) (chosen y) (t *ℤ chosen (unit m)) in
          let e = times_exchange (chosen (unit m)) t (f (unit m)) in
          let h = times_exchange (f (unit m)) t (chosen (unit m)) in
          let same = ap (λ z. t *ℤ z) (times_comm (chosen (unit m)) (f (unit m))) in
          omega (arith, ints, a, b, s, u, e, h, same));
    }

All_out : {X Y : Type 0} (P : Y → Type 0) (f : X → Y) (xs : List X) → All P (map f xs) → All (λ x. P (f x)) xs
All_out P f xs all k d l =
    subst P (get_or-map f xs k d (f d) l) (all k (f d) (omega (arith, l, length-map xs f)))

module _ (m : ℕ) (fs : List ((ℕ → ℤ) → ℤ)) (p : Pivot m (suc m) fs) (s : Solved m (map (without p.chosen m) p.rest)) where
  -- What the last unknown is not, by what it is to be.
  whole : ℕ → ℤ
  whole i = p.chosen (unit m) *ℤ s.x i +ℤ neg_ℤ (p.chosen s.x) *ℤ unit m i

  at_whole : (f : (ℕ → ℤ) → ℤ) → IsLinear (suc m) f → f whole ≡ without p.chosen m f s.x
  unfolding whole without
  at_whole f lf =
      let a = lf.combined (p.chosen (unit m)) (neg_ℤ (p.chosen s.x)) s.x (unit m) in
      let b = neg_times (p.chosen s.x) (f (unit m)) in
      let c = times_comm (p.chosen s.x) (f (unit m)) in
      omega (arith, ints, a, b, c)

  solved_more : Solved (suc m) fs
  unfolding whole without
  solved_more = record {
    x = whole;
    place = s.place;
    below = omega (arith, s.below);
    nonzero = λ e. s.nonzero (no_product (p.chosen (unit m)) (s.x s.place) p.stands (first e));
    holds = p.together whole chosen_holds rest_hold;
  }
    where
      first : whole s.place ≡ pos 0 → p.chosen (unit m) *ℤ s.x s.place ≡ pos 0
      first e =
          let other = ap (λ z. neg_ℤ (p.chosen s.x) *ℤ z) (unit_other m s.place (λ e. (let b = s.below in omega (arith, e, b)))) in
          omega (arith, ints, e, other)

      chosen_holds : p.chosen whole ≡ pos 0
      chosen_holds = let a = at_whole p.chosen p.linear in omega (arith, ints, a)

      rest_hold : All (λ f. f whole ≡ pos 0) p.rest
      rest_hold k d l =
          let f = get_or p.rest k d in
          at_whole f (p.all_linear k d l) ∙ All_out (λ g. g s.x ≡ pos 0) (without p.chosen m) p.rest s.holds k d l

all_without : (m : ℕ) (chosen : (ℕ → ℤ) → ℤ) (rest : List ((ℕ → ℤ) → ℤ)) → IsLinear (suc m) chosen
    → All (IsLinear (suc m)) rest → All (IsLinear m) (map (without chosen m) rest)
all_without m chosen rest lc all =
    All-map (IsLinear m) (without chosen m) rest (λ k d l. linear_without m chosen (get_or rest k d) lc (all k d l))

-- Fewer equations than unknowns hold at once for numbers that are not all 0.
pub solve : (n : ℕ) (fs : List ((ℕ → ℤ) → ℤ)) → All (IsLinear n) fs → length fs < n → Solved n fs
solve zero fs all l = absurd (omega arith)
solve (suc m) fs all l =
    elim (pivot m (suc m) fs all) [
      | inl nones ↦ record {
        x = unit m;
        place = m;
        below = omega arith;
        nonzero = λ e. (let h = unit_here m in omega (arith, ints, e, h));
        holds = nones;
      }
      | inr p ↦ solved_more m fs p
          (solve m (map (without p.chosen m) p.rest) (all_without m p.chosen p.rest p.linear p.all_linear)
          (omega (arith, l, p.fewer, length-map p.rest (without p.chosen m))))
    ]

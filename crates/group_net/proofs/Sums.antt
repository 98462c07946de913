-- Sums over the nodes of a group.
use Rattle.std.proofs.Common.{◌≡◌, ◌≢◌, ℕ, zero, suc, ◌+◌, ◌<◌, ◌≤◌, inl, inr, ℤ, pos, neg_ℤ, ◌+ℤ◌, ◌*ℤ◌, arith, refl, sym, ap, ◌∙◌, List, [], ◌∷◌, ◌++◌, get_or, map, All, Bool, true, false, cond, eqb, eqb-true, eq-eqb, add-one}
use Rattle.std.specs.List.{range_with_len}
use Rattle.std.proofs.lemmas.Int.{ints}
use Rattle.std.proofs.lemmas.Bool.{cases_eq}
use Rattle.std.proofs.lemmas.List.{map-id}
use Rattle.std.proofs.lemmas.List.FromFn.{length-range_with_len, get_or-range_with_len, map-range_with_len_more}
use Rattle.std.proofs.lemmas.List.Elements.{All-head, All-tail, All-from_get_or}
use Rattle.rounding.specs.Laws.{times_sum}
use Rattle.grid_net.specs.declared.part.Resistor.{Resistor}
use Rattle.grid_net.specs.Network.{total, taken_by, net_current}
use Rattle.grid_net.specs.Shorted.{short_current}
use Rattle.group_net.specs.Merging.{grouped_resistor}

-- ---- sums over a list
pub total-append : {X : Type 0} (f : X → ℤ) (xs ys : List X) → total f (xs ++ ys) ≡ total f xs +ℤ total f ys
total-append f [] ys = omega (arith, ints)
total-append f (x ∷ xs) ys = let e = total-append f xs ys in omega (arith, ints, e)

pub total-sum : {X : Type 0} (f g : X → ℤ) (xs : List X) → total (λ x. f x +ℤ g x) xs ≡ total f xs +ℤ total g xs
total-sum f g [] = omega (arith, ints)
total-sum f g (x ∷ xs) = let e = total-sum f g xs in omega (arith, ints, e)

pub total-neg : {X : Type 0} (f : X → ℤ) (xs : List X) → total (λ x. neg_ℤ (f x)) xs ≡ neg_ℤ (total f xs)
total-neg f [] = omega (arith, ints)
total-neg f (x ∷ xs) = let e = total-neg f xs in omega (arith, ints, e)

pub total-times : {X : Type 0} (q : ℤ) (f : X → ℤ) (xs : List X) → total (λ x. q *ℤ f x) xs ≡ q *ℤ total f xs
total-times q f [] = omega (arith, ints)
total-times q f (x ∷ xs) = let e = total-times q f xs in omega (arith, ints, e, times_sum q (f x) (total f xs))

pub total-nothing : {X : Type 0} (xs : List X) → total (λ (x : X). pos 0) xs ≡ pos 0
total-nothing [] = refl
total-nothing (x ∷ xs) = let e = total-nothing xs in omega (arith, ints, e)

pub total-same : {X : Type 0} (P : X → Type 0) (f g : X → ℤ) → ((x : X) → P x → f x ≡ g x) → (xs : List X) → All P xs
    → total f xs ≡ total g xs
total-same P f g h [] all = refl
total-same P f g h (x ∷ xs) all =
    let e = total-same P f g h xs (All-tail P x xs all) in let d = h x (All-head P x xs all) in omega (arith, ints, e, d)

pub total-map : {X Y : Type 0} (h : Y → ℤ) (f : X → Y) (xs : List X) → total h (map f xs) ≡ total (λ x. h (f x)) xs
total-map h f [] = refl
total-map h f (x ∷ xs) = let e = total-map h f xs in omega (arith, ints, e)

-- ---- sums over the nodes
abbrev pub over : ℕ → (ℕ → ℤ) → ℤ
over n f = total f (range_with_len 0 n)

range_more : (n : ℕ) → range_with_len 0 (n + 1) ≡ range_with_len 0 n ++ n ∷ []
range_more n = sym (map-id (range_with_len 0 (n + 1))) ∙ map-range_with_len_more (λ (x : ℕ). x) 0 n n (omega arith)
    ∙ ap (λ (xs : List ℕ). xs ++ n ∷ []) (map-id (range_with_len 0 n))

pub over_next : (n : ℕ) (f : ℕ → ℤ) → over (suc n) f ≡ over n f +ℤ f n
over_next n f =
    let e = ap (λ (k : ℕ). over k f) (sym (add-one n)) in
    let d = ap (λ (xs : List ℕ). total f xs) (range_more n) in
    let b = total-append f (range_with_len 0 n) (n ∷ []) in
    omega (arith, ints, e, d, b)

pub all_below : (n : ℕ) → All (λ i. i < n) (range_with_len 0 n)
all_below n = All-from_get_or (λ i. i < n) (range_with_len 0 n) 0
    (λ i l. let m : i < n = omega (arith, l, length-range_with_len 0 n) in omega (arith, get_or-range_with_len 0 n i 0 m, m))

pub over_same : (n : ℕ) (f g : ℕ → ℤ) → ((i : ℕ) → i < n → f i ≡ g i) → over n f ≡ over n g
over_same n f g h = total-same (λ i. i < n) f g h (range_with_len 0 n) (all_below n)

other_test : (a b : ℕ) (x : ℤ) → a ≢ b → cond (eqb a b) x (pos 0) ≡ pos 0
other_test a b x ne = by_test (eqb a b) refl
  where
    by_test : (t : Bool) → eqb a b ≡ t → cond t x (pos 0) ≡ pos 0
    by_test true e = absurd (ne (eqb-true a b e))
    by_test false e = refl

pick_past : (n a : ℕ) (h : ℕ → ℤ) → n ≤ a → over n (λ i. cond (eqb a i) (h i) (pos 0)) ≡ pos 0
pick_past n a h l =
    over_same n (λ i. cond (eqb a i) (h i) (pos 0)) (λ i. pos 0) (λ i m. other_test a i (h i) (omega arith))
    ∙ total-nothing (range_with_len 0 n)

-- One node's number.
pub pick : (n a : ℕ) (h : ℕ → ℤ) → a < n → over n (λ i. cond (eqb a i) (h i) (pos 0)) ≡ h a
pick zero a h l = absurd (omega arith)
pick (suc n) a h l = elim (cases_eq a n) [
  | inl e ↦ (
      let next = over_next n (λ i. cond (eqb a i) (h i) (pos 0)) in
      let past = pick_past n a h (omega arith) in
      let here : cond (eqb a n) (h n) (pos 0) ≡ h n = ap (λ (b : Bool). cond b (h n) (pos 0)) (eq-eqb a n e) in
      let same = ap h e in omega (arith, ints, next, past, here, same))
  | inr ne ↦ (
      let next = over_next n (λ i. cond (eqb a i) (h i) (pos 0)) in
      let rest = pick n a h (omega arith) in
      let here = other_test a n (h n) ne in omega (arith, ints, next, rest, here))
]

-- ---- sums over the nodes of a group
module _ (group : List ℕ) (g : ℕ) where
  -- The number of a node that is of the group, and 0 for any other.
  abbrev pub of_group : (ℕ → ℤ) → ℕ → ℤ
  of_group f i = cond (eqb (get_or group i 0) g) (f i) (pos 0)

  swap : (s t : Bool) (x : ℤ) → cond s (cond t x (pos 0)) (pos 0) ≡ cond t (cond s x (pos 0)) (pos 0)
  swap true t x = refl
  swap false true x = refl
  swap false false x = refl

  -- What one node adds counts in its group.
  pub one_end : (n a : ℕ) (x : ℤ) → a < n
      → over n (of_group (λ i. cond (eqb a i) x (pos 0))) ≡ cond (eqb (get_or group a 0) g) x (pos 0)
  one_end n a x l =
      over_same n (of_group (λ i. cond (eqb a i) x (pos 0)))
      (λ i. cond (eqb a i) (cond (eqb (get_or group i 0) g) x (pos 0)) (pos 0))
      (λ i m. swap (eqb (get_or group i 0) g) (eqb a i) x)
      ∙ pick n a (λ i. cond (eqb (get_or group i 0) g) x (pos 0)) l

  sum_if : (b : Bool) (x y : ℤ) → cond b (x +ℤ y) (pos 0) ≡ cond b x (pos 0) +ℤ cond b y (pos 0)
  sum_if true x y = refl
  sum_if false x y = omega (arith, ints)

  pub group-sum : (n : ℕ) (f h : ℕ → ℤ)
      → over n (of_group (λ i. f i +ℤ h i)) ≡ over n (of_group f) +ℤ over n (of_group h)
  group-sum n f h =
      over_same n (of_group (λ i. f i +ℤ h i)) (λ i. of_group f i +ℤ of_group h i)
      (λ i m. sum_if (eqb (get_or group i 0) g) (f i) (h i))
      ∙ total-sum (of_group f) (of_group h) (range_with_len 0 n)

  none_if : (b : Bool) → cond b (pos 0) (pos 0) ≡ pos 0
  none_if true = refl
  none_if false = refl

  pub group-nothing : (n : ℕ) → over n (of_group (λ i. pos 0)) ≡ pos 0
  group-nothing n =
      over_same n (of_group (λ i. pos 0)) (λ i. pos 0) (λ i m. none_if (eqb (get_or group i 0) g))
      ∙ total-nothing (range_with_len 0 n)

  neg_if : (b : Bool) (x : ℤ) → cond b (neg_ℤ x) (pos 0) ≡ neg_ℤ (cond b x (pos 0))
  neg_if true x = refl
  neg_if false x = refl

  pub group-neg : (n : ℕ) (f : ℕ → ℤ) → over n (of_group (λ i. neg_ℤ (f i))) ≡ neg_ℤ (over n (of_group f))
  group-neg n f =
      over_same n (of_group (λ i. neg_ℤ (f i))) (λ i. neg_ℤ (of_group f i))
      (λ i m. neg_if (eqb (get_or group i 0) g) (f i))
      ∙ total-neg (of_group f) (range_with_len 0 n)

  same_if : (b : Bool) (x y : ℤ) → (b ≡ true → x ≡ y) → cond b x (pos 0) ≡ cond b y (pos 0)
  same_if true x y h = h refl
  same_if false x y h = refl

  -- Numbers that agree at the nodes of the group.
  pub group-same : (n : ℕ) (f h : ℕ → ℤ) → ((i : ℕ) → i < n → get_or group i 0 ≡ g → f i ≡ h i)
      → over n (of_group f) ≡ over n (of_group h)
  group-same n f h same = over_same n (of_group f) (of_group h)
      (λ i l. same_if (eqb (get_or group i 0) g) (f i) (h i) (λ e. same i l (eqb-true (get_or group i 0) g e)))

  -- Currents over resistors: what leaves the nodes of a group leaves the group.
  pub group-currents : (n : ℕ) (rs : List Resistor) (c : ℕ → ℤ) → All (λ r. (r.a < n) × (r.b < n)) rs
      → over n (of_group (net_current rs c)) ≡ net_current (map (grouped_resistor group) rs) c g
  group-currents n [] c all = group-nothing n
  group-currents n (r ∷ rs) c all =
      let here = All-head (λ r. (r.a < n) × (r.b < n)) r rs all in
      let rest = group-currents n rs (λ k. c (suc k)) (All-tail (λ r. (r.a < n) × (r.b < n)) r rs all) in
      let split = group-sum n (λ i. taken_by r i (c 0) (neg_ℤ (c 0))) (net_current rs (λ k. c (suc k))) in
      let ends = group-sum n (λ i. cond (eqb r.a i) (c 0) (pos 0)) (λ i. cond (eqb r.b i) (neg_ℤ (c 0)) (pos 0)) in
      let one = one_end n r.a (c 0) here.0 in
      let other = one_end n r.b (neg_ℤ (c 0)) here.1 in
      omega (arith, ints, rest, split, ends, one, other)

  cancels : (s t : Bool) (x : ℤ) → s ≡ t → cond s x (pos 0) +ℤ cond t (neg_ℤ x) (pos 0) ≡ pos 0
  cancels true true x e = omega (arith, ints)
  cancels false false x e = omega (arith, ints)
  cancels true false x e = cc
  cancels false true x e = cc

  -- The currents over shorts cancel within each group, since both ends of a short are of one group.
  pub group-shorts : (n : ℕ) (shorts : List (ℕ × ℕ)) (s : ℕ → ℤ)
      → All (λ (ends : ℕ × ℕ). (ends.0 < n) × (ends.1 < n)) shorts
      → All (λ (ends : ℕ × ℕ). get_or group ends.0 0 ≡ get_or group ends.1 0) shorts
      → over n (of_group (short_current shorts s)) ≡ pos 0
  group-shorts n [] s all same = group-nothing n
  group-shorts n (ends ∷ shorts) s all same =
      let nodes = All-head (λ (ends : ℕ × ℕ). (ends.0 < n) × (ends.1 < n)) ends shorts all in
      let one_group = All-head (λ (ends : ℕ × ℕ). get_or group ends.0 0 ≡ get_or group ends.1 0) ends shorts same in
      let rest = group-shorts n shorts (λ k. s (suc k))
      (All-tail (λ (ends : ℕ × ℕ). (ends.0 < n) × (ends.1 < n)) ends shorts all)
      (All-tail (λ (ends : ℕ × ℕ). get_or group ends.0 0 ≡ get_or group ends.1 0) ends shorts same) in
      let split = group-sum n
      (λ i. cond (eqb ends.0 i) (s 0) (pos 0) +ℤ cond (eqb ends.1 i) (neg_ℤ (s 0)) (pos 0))
      (short_current shorts (λ k. s (suc k))) in
      let both = group-sum n (λ i. cond (eqb ends.0 i) (s 0) (pos 0)) (λ i. cond (eqb ends.1 i) (neg_ℤ (s 0)) (pos 0)) in
      let one = one_end n ends.0 (s 0) nodes.0 in
      let other = one_end n ends.1 (neg_ℤ (s 0)) nodes.1 in
      let none = cancels (eqb (get_or group ends.0 0) g) (eqb (get_or group ends.1 0) g) (s 0)
      (ap (λ (x : ℕ). eqb x g) one_group) in
      omega (arith, ints, rest, split, both, one, other, none)

-- Sums over the nodes on one side of a cut: the resistors inside cancel, and what crosses is bounded.
use Rattle.std.proofs.Common.{◌≡◌, ℕ, zero, suc, ◌+◌, ◌<◌, ◌≤◌, inl, inr, ℤ, pos, negsuc, neg_ℤ, ◌+ℤ◌, ◌-ℤ◌, ◌≤ℤ◌, arith, refl, ap, ◌∙◌, List, [], ◌∷◌, length, get_or, All, Bool, true, false, cond, eqb, eqb-true, eq-eqb, le_of_suc-le-suc}
use Rattle.std.proofs.lemmas.Int.{ints}
use Rattle.std.proofs.lemmas.Bool.{cases_eq}
use Rattle.std.proofs.lemmas.List.Elements.{All-head, All-tail}
use Rattle.grid_net.specs.declared.part.Resistor.{Resistor}
use Rattle.grid_net.specs.Network.{IsResistorOf, total, taken_by, outflow, FlowRule, over_nodes}
use Rattle.bound_make.specs.inside.Raising.{IsFlowRule}

-- f 0 + .. + f (n - 1).
abbrev pub sum_to : ℕ → (ℕ → ℤ) → ℤ
sum_to zero f = pos 0
sum_to (suc n) f = sum_to n f +ℤ f n

pub sum_to_le : (n : ℕ) (f g : ℕ → ℤ) → ((i : ℕ) → i < n → f i ≤ℤ g i) → sum_to n f ≤ℤ sum_to n g
sum_to_le zero f g h = omega (arith, ints)
sum_to_le (suc n) f g h = let rest = sum_to_le n f g (λ i l. h i (omega arith)) in let last = h n (omega arith) in omega (arith, ints, rest, last)

pub sum_to_same : (n : ℕ) (f g : ℕ → ℤ) → ((i : ℕ) → i < n → f i ≡ g i) → sum_to n f ≡ sum_to n g
sum_to_same zero f g h = refl
sum_to_same (suc n) f g h = let rest = sum_to_same n f g (λ i l. h i (omega arith)) in let last = h n (omega arith) in omega (arith, ints, rest, last)

pub sum_to_add : (n : ℕ) (f g : ℕ → ℤ) → sum_to n (λ i. f i +ℤ g i) ≡ sum_to n f +ℤ sum_to n g
sum_to_add zero f g = refl
sum_to_add (suc n) f g = let rest = sum_to_add n f g in omega (arith, ints, rest)

pub sum_to_none : (n : ℕ) → sum_to n (λ i. pos 0) ≡ pos 0
sum_to_none zero = refl
sum_to_none (suc n) = omega (arith, ints, sum_to_none n)

pub sum_to_pos : (n : ℕ) (f : ℕ → ℕ) → sum_to n (λ i. pos (f i)) ≡ pos (over_nodes n f)
sum_to_pos zero f = refl
sum_to_pos (suc n) f = omega (arith, ints, sum_to_pos n f)

pub sum_to_neg : (n : ℕ) (f : ℕ → ℕ) → sum_to n (λ i. neg_ℤ (pos (f i))) ≡ neg_ℤ (pos (over_nodes n f))
sum_to_neg zero f = refl
sum_to_neg (suc n) f = omega (arith, ints, sum_to_neg n f)

-- ---- a sum with one term
pub other_term : (b : Bool) (u : ℤ) → (b ≡ true → ⊥) → cond b u (pos 0) ≡ pos 0
other_term true u h = absurd (h refl)
other_term false u h = refl

pub own_term : (b : Bool) (u : ℤ) → b ≡ true → cond b u (pos 0) ≡ u
own_term true u h = refl
own_term false u h = cc

beyond : (n a : ℕ) (g : ℕ → ℤ) → n ≤ a → sum_to n (λ i. cond (eqb a i) (g i) (pos 0)) ≡ pos 0
beyond zero a g h = refl
beyond (suc n) a g h =
    let rest = beyond n a g (omega arith) in
    let last = other_term (eqb a n) (g n) (λ e. let same = eqb-true a n e in omega arith) in
    omega (arith, ints, rest, last)

pub one_term : (n a : ℕ) (g : ℕ → ℤ) → a < n → sum_to n (λ i. cond (eqb a i) (g i) (pos 0)) ≡ g a
one_term zero a g h = absurd (omega arith)
one_term (suc n) a g h = elim (cases_eq a n) [
  | inl e ↦
      let rest = beyond n a g (omega arith) in
      let last = own_term (eqb a n) (g n) (eq-eqb a n e) in
      omega (arith, ints, rest, last, ap g e)
  | inr ne ↦
      let rest = one_term n a g (omega arith) in
      let last = other_term (eqb a n) (g n) (λ e. ne (eqb-true a n e)) in
      omega (arith, ints, rest, last)
]

turn : (s t : Bool) (u : ℤ) → cond s (cond t u (pos 0)) (pos 0) ≡ cond t (cond s u (pos 0)) (pos 0)
turn true t u = refl
turn false true u = refl
turn false false u = refl

spread : (s : Bool) (u v : ℤ) → cond s (u +ℤ v) (pos 0) ≡ cond s u (pos 0) +ℤ cond s v (pos 0)
spread true u v = refl
spread false u v = refl

chosen : (n a : ℕ) (s : ℕ → Bool) (u : ℤ) → a < n → sum_to n (λ i. cond (s i) (cond (eqb a i) u (pos 0)) (pos 0)) ≡ cond (s a) u (pos 0)
chosen n a s u h =
    sum_to_same n (λ i. cond (s i) (cond (eqb a i) u (pos 0)) (pos 0)) (λ i. cond (eqb a i) (cond (s i) u (pos 0)) (pos 0)) (λ i l. turn (s i) (eqb a i) u)
    ∙ one_term n a (λ i. cond (s i) u (pos 0)) h

-- What a resistor takes from the nodes of a set.
abbrev pub taken_from : FlowRule → (ℕ → ℤ) → (ℕ → Bool) → Resistor → ℤ
taken_from rule x s r = cond (s r.a) (rule (x r.a -ℤ x r.b) r.ohms) (pos 0) +ℤ cond (s r.b) (rule (x r.b -ℤ x r.a) r.ohms) (pos 0)

-- The flows that leave the nodes of a set, resistor by resistor.
pub cut_sum : (rule : FlowRule) (n : ℕ) (x : ℕ → ℤ) (s : ℕ → Bool) (rs : List Resistor) → All (IsResistorOf n) rs → sum_to n (λ i. cond (s i) (outflow rule rs x i) (pos 0)) ≡ total (taken_from rule x s) rs
cut_sum rule n x s [] all =
    sum_to_same n (λ i. cond (s i) (pos 0) (pos 0)) (λ i. pos 0) (λ i l. nothing (s i)) ∙ sum_to_none n
  where
    nothing : (b : Bool) → cond b (pos 0) (pos 0) ≡ pos 0
    nothing true = refl
    nothing false = refl
cut_sum rule n x s (r ∷ rs) all =
    let of_r = All-head (IsResistorOf n) r rs all in
    let u = rule (x r.a -ℤ x r.b) r.ohms in
    let v = rule (x r.b -ℤ x r.a) r.ohms in
    let at_a : ℕ → ℤ = λ i. cond (s i) (cond (eqb r.a i) u (pos 0)) (pos 0) in
    let at_b : ℕ → ℤ = λ i. cond (s i) (cond (eqb r.b i) v (pos 0)) (pos 0) in
    let there : ℕ → ℤ = λ i. cond (s i) (outflow rule rs x i) (pos 0) in
    let split = sum_to_same n (λ i. cond (s i) (outflow rule (r ∷ rs) x i) (pos 0)) (λ i. (at_a i +ℤ at_b i) +ℤ there i)
    (λ i l. spread (s i) (taken_by r i u v) (outflow rule rs x i) ∙ ap (λ z. z +ℤ there i) (spread (s i) (cond (eqb r.a i) u (pos 0)) (cond (eqb r.b i) v (pos 0)))) in
    let one = sum_to_add n (λ i. at_a i +ℤ at_b i) there in
    let two = sum_to_add n at_a at_b in
    let a = chosen n r.a s u of_r.a_is_node in
    let b = chosen n r.b s v of_r.b_is_node in
    let rest = cut_sum rule n x s rs (All-tail (IsResistorOf n) r rs all) in
    omega (arith, ints, split, one, two, a, b, rest)

-- ---- a sum against one of its terms
at_least_each : {X : Type 0} (P : X → Type 0) (f : X → ℤ) → ((x : X) → P x → negsuc 0 ≤ℤ f x) → (xs : List X) → All P xs → neg_ℤ (pos (length xs)) ≤ℤ total f xs
at_least_each P f h [] all = omega (arith, ints)
at_least_each P f h (x ∷ xs) all = let a = h x (All-head P x xs all) in let b = at_least_each P f h xs (All-tail P x xs all) in omega (arith, ints, a, b)

at_least_part : {X : Type 0} (P : X → Type 0) (f : X → ℤ) → ((x : X) → P x → negsuc 0 ≤ℤ f x) → (xs : List X) → All P xs → (k : ℕ) (d : X) → k < length xs → (f (get_or xs k d) -ℤ pos (length xs)) ≤ℤ total f xs
at_least_part P f h [] all k d l = absurd (omega arith)
at_least_part P f h (x ∷ xs) all zero d l = let b = at_least_each P f h xs (All-tail P x xs all) in omega (arith, ints, b)
at_least_part P f h (x ∷ xs) all (suc k) d l = let a = h x (All-head P x xs all) in let b = at_least_part P f h xs (All-tail P x xs all) k d (le_of_suc-le-suc l) in omega (arith, ints, a, b)

at_most_none : {X : Type 0} (P : X → Type 0) (f : X → ℤ) → ((x : X) → P x → f x ≤ℤ pos 0) → (xs : List X) → All P xs → total f xs ≤ℤ pos 0
at_most_none P f h [] all = omega (arith, ints)
at_most_none P f h (x ∷ xs) all = let a = h x (All-head P x xs all) in let b = at_most_none P f h xs (All-tail P x xs all) in omega (arith, ints, a, b)

at_most_part : {X : Type 0} (P : X → Type 0) (f : X → ℤ) → ((x : X) → P x → f x ≤ℤ pos 0) → (xs : List X) → All P xs → (k : ℕ) (d : X) → k < length xs → total f xs ≤ℤ f (get_or xs k d)
at_most_part P f h [] all k d l = absurd (omega arith)
at_most_part P f h (x ∷ xs) all zero d l = let b = at_most_none P f h xs (All-tail P x xs all) in omega (arith, ints, b)
at_most_part P f h (x ∷ xs) all (suc k) d l = let a = h x (All-head P x xs all) in let b = at_most_part P f h xs (All-tail P x xs all) k d (le_of_suc-le-suc l) in omega (arith, ints, a, b)

-- A fact by the two outcomes of a test.
pub by_test : {P : Type 0} (b : Bool) → (b ≡ true → P) → (b ≡ false → P) → P
by_test true p q = p refl
by_test false p q = q refl

module _ (rule : FlowRule) (of_rule : IsFlowRule rule) (n : ℕ) (x : ℕ → ℤ) (s : ℕ → Bool) (limit : ℕ → ℕ) (rs : List Resistor) (all : All (IsResistorOf n) rs) where
  not_down : (z r : ℤ) → pos 1 ≤ℤ r → pos 0 ≤ℤ z → pos 0 ≤ℤ rule z r
  not_down z r h le = omega (arith, ints, of_rule.grows (pos 0) z r h le, of_rule.none r h)

  not_up : (z r : ℤ) → pos 1 ≤ℤ r → z ≤ℤ pos 0 → rule z r ≤ℤ pos 0
  not_up z r h le = omega (arith, ints, of_rule.grows z (pos 0) r h le, of_rule.none r h)

  turned_flow : (r : Resistor) → rule (x r.b -ℤ x r.a) r.ohms ≡ rule (neg_ℤ (x r.a -ℤ x r.b)) r.ohms
  turned_flow r = let e : x r.b -ℤ x r.a ≡ neg_ℤ (x r.a -ℤ x r.b) = omega (arith, ints) in ap (λ d. rule d r.ohms) e

  -- Where the nodes of the set are above all others, a resistor takes at least -1 from them.
  takes_up : (t : ℤ) → ((i : ℕ) → s i ≡ true → t ≤ℤ x i) → ((i : ℕ) → s i ≡ false → x i ≤ℤ t) → (r : Resistor) → IsResistorOf n r → negsuc 0 ≤ℤ taken_from rule x s r
  takes_up t above below r of_r =
      both (s r.a) (s r.b) refl refl
    where
      both : (p q : Bool) → s r.a ≡ p → s r.b ≡ q → negsuc 0 ≤ℤ (cond p (rule (x r.a -ℤ x r.b) r.ohms) (pos 0) +ℤ cond q (rule (x r.b -ℤ x r.a) r.ohms) (pos 0))
      both true true e f = omega (arith, ints, turned_flow r, of_rule.ends_at_least (x r.a -ℤ x r.b) r.ohms of_r.resists)
      both true false e f = let h = above r.a e in let k = below r.b f in omega (arith, ints, not_down (x r.a -ℤ x r.b) r.ohms of_r.resists (omega (arith, ints, h, k)))
      both false true e f = let h = above r.b f in let k = below r.a e in omega (arith, ints, not_down (x r.b -ℤ x r.a) r.ohms of_r.resists (omega (arith, ints, h, k)))
      both false false e f = omega (arith, ints)

  -- Where they are below all others, it takes at most 0.
  takes_down : (t : ℤ) → ((i : ℕ) → s i ≡ true → x i ≤ℤ t) → ((i : ℕ) → s i ≡ false → t ≤ℤ x i) → (r : Resistor) → IsResistorOf n r → taken_from rule x s r ≤ℤ pos 0
  takes_down t below above r of_r =
      both (s r.a) (s r.b) refl refl
    where
      both : (p q : Bool) → s r.a ≡ p → s r.b ≡ q → (cond p (rule (x r.a -ℤ x r.b) r.ohms) (pos 0) +ℤ cond q (rule (x r.b -ℤ x r.a) r.ohms) (pos 0)) ≤ℤ pos 0
      both true true e f = omega (arith, ints, turned_flow r, of_rule.ends_at_most (x r.a -ℤ x r.b) r.ohms of_r.resists)
      both true false e f = let h = below r.a e in let k = above r.b f in omega (arith, ints, not_up (x r.a -ℤ x r.b) r.ohms of_r.resists (omega (arith, ints, h, k)))
      both false true e f = let h = below r.b f in let k = above r.a e in omega (arith, ints, not_up (x r.b -ℤ x r.a) r.ohms of_r.resists (omega (arith, ints, h, k)))
      both false false e f = omega (arith, ints)

  limited_up : ((i : ℕ) → i < n → s i ≡ true → outflow rule rs x i ≤ℤ pos (limit i)) → total (taken_from rule x s) rs ≤ℤ pos (over_nodes n limit)
  limited_up h =
      let le = sum_to_le n (λ i. cond (s i) (outflow rule rs x i) (pos 0)) (λ i. pos (limit i)) (λ i l. within (s i) (outflow rule rs x i) (limit i) (h i l)) in
      omega (arith, ints, le, cut_sum rule n x s rs all, sum_to_pos n limit)
    where
      within : (b : Bool) (u : ℤ) (m : ℕ) → (b ≡ true → u ≤ℤ pos m) → cond b u (pos 0) ≤ℤ pos m
      within true u m k = k refl
      within false u m k = omega (arith, ints)

  limited_down : ((i : ℕ) → i < n → s i ≡ true → neg_ℤ (pos (limit i)) ≤ℤ outflow rule rs x i) → neg_ℤ (pos (over_nodes n limit)) ≤ℤ total (taken_from rule x s) rs
  limited_down h =
      let le = sum_to_le n (λ i. neg_ℤ (pos (limit i))) (λ i. cond (s i) (outflow rule rs x i) (pos 0)) (λ i l. within (s i) (outflow rule rs x i) (limit i) (h i l)) in
      omega (arith, ints, le, cut_sum rule n x s rs all, sum_to_neg n limit)
    where
      within : (b : Bool) (u : ℤ) (m : ℕ) → (b ≡ true → neg_ℤ (pos m) ≤ℤ u) → neg_ℤ (pos m) ≤ℤ cond b u (pos 0)
      within true u m k = k refl
      within false u m k = omega (arith, ints)

  -- What one resistor takes from the upper side of a cut is at most what its nodes are allowed, and the number of resistors.
  pub upper_cut : (t : ℤ) → ((i : ℕ) → s i ≡ true → t ≤ℤ x i) → ((i : ℕ) → s i ≡ false → x i ≤ℤ t) → ((i : ℕ) → i < n → s i ≡ true → outflow rule rs x i ≤ℤ pos (limit i)) → (k : ℕ) (d : Resistor) → k < length rs → taken_from rule x s (get_or rs k d) ≤ℤ pos (over_nodes n limit + length rs)
  upper_cut t above below h k d l =
      let part = at_least_part (IsResistorOf n) (taken_from rule x s) (takes_up t above below) rs all k d l in
      omega (arith, ints, part, limited_up h)

  -- What one resistor takes from the lower side is at least the negative of what its nodes are allowed.
  pub lower_cut : (t : ℤ) → ((i : ℕ) → s i ≡ true → x i ≤ℤ t) → ((i : ℕ) → s i ≡ false → t ≤ℤ x i) → ((i : ℕ) → i < n → s i ≡ true → neg_ℤ (pos (limit i)) ≤ℤ outflow rule rs x i) → (k : ℕ) (d : Resistor) → k < length rs → neg_ℤ (pos (over_nodes n limit)) ≤ℤ taken_from rule x s (get_or rs k d)
  lower_cut t below above h k d l =
      let part = at_most_part (IsResistorOf n) (taken_from rule x s) (takes_down t below above) rs all k d l in
      omega (arith, ints, part, limited_down h)

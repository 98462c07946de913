-- Tables of what is known.
use Rattle.std.proofs.Common.{◌≡◌, ℕ, zero, suc, ◌+◌, ◌*◌, ◌<◌, ◌≤◌, List, [], ◌∷◌, ◌++◌, length, length-set, slice_get, set, Option, Some, None, refl, sym, ◌∙◌, ap, subst, arith, ◌⊎◌, inl, inr}
use Rattle.reading.specs.declared.patterns.Node.{Node}
use Rattle.reading.specs.declared.patterns.Node.TheVariants as nodes
use Rattle.reading.specs.Pattern.{Pattern, Never, Empty, One, Then, Or, Many}
use Rattle.reading.specs.inside.Left.{left}
use Rattle.reading.specs.inside.Patterns.{IsGraph, Extends, Grown, Denotes}
use Rattle.reading.specs.inside.Patterns.{IsStanding}
use Rattle.reading.specs.declared.machine.Rest.{Rest}
use Rattle.reading.specs.inside.Machine.{IsUnknown, TellsNoMore, Notes, KnowsLefts, KnowsStarts}
use Rattle.reading.proofs.Bits.{number-below}
use Rattle.reading.proofs.Graph.{get-either, denotes-extends, length-extends}

pub unknown-none : {X : Type 0} → IsUnknown {X = X} []
unknown-none {X} = λ k x h. let t : None ≡ Some (Some x) = h in cc

pub tells-more : {X : Type 0} (table : List (Option X)) → TellsNoMore table (table ++ None ∷ [])
tells-more table = λ k x h. elim (get-either table None (Some x) k h) [
  | inl t ↦ t
  | inr t ↦ let e : None ≡ Some x = t.1 in cc
]

pub unknown-more : {X : Type 0} (table new : List (Option X)) → IsUnknown table → new ≡ table ++ None ∷ [] → IsUnknown new
unknown-more table new h e = λ k x g. h k x (tells-more table k x (subst (λ z. slice_get z k ≡ Some (Some x)) e g))

pub tells-then : {X : Type 0} (old table new : List (Option X)) → TellsNoMore old table → new ≡ table ++ None ∷ [] → TellsNoMore old new
tells-then old table new h e = λ k x g. h k x (tells-more table k x (subst (λ z. slice_get z k ≡ Some (Some x)) e g))

get-set : {X : Type 0} (xs : List X) (key k : ℕ) (v x : X) → slice_get (set xs key v) k ≡ Some x → (slice_get xs k ≡ Some x) ⊎ ((k ≡ key) × (v ≡ x))
get-set [] key k v x h = inl h
get-set (y ∷ xs) zero zero v x h = inr (refl, (let t : Some v ≡ Some x = h in cc))
get-set (y ∷ xs) zero (suc k) v x h = inl h
get-set (y ∷ xs) (suc key) zero v x h = inl h
get-set (y ∷ xs) (suc key) (suc k) v x h = elim (get-set xs key k v x h) [
  | inl t ↦ inl t
  | inr t ↦ inr (ap (λ n. suc n) t.0, t.1)
]

pub noted : {X : Type 0} (old table new : List (Option X)) (key : ℕ) (v : X) → TellsNoMore old table → new ≡ set table key (Some v) → Notes old new key v
noted old table new key v h e = λ k x g. elim (get-set table key k (Some v) (Some x) (subst (λ z. slice_get z k ≡ Some (Some x)) e g)) [
  | inl t ↦ inl (h k x t)
  | inr t ↦ inr (t.0, (let q : Some v ≡ Some x = t.1 in cc))
]

pub noted-none : {X : Type 0} (old new : List (Option X)) (key : ℕ) (v : X) → new ≡ old → Notes old new key v
noted-none old new key v e = λ k x g. inl (subst (λ z. slice_get z k ≡ Some (Some x)) e g)

-- ## what was so in fewer nodes

get-within : {X : Type 0} (xs ys : List X) (i : ℕ) (x : X) → i < length xs → slice_get (xs ++ ys) i ≡ Some x → slice_get xs i ≡ Some x
get-within [] ys i x lt h = absurd (omega arith)
get-within (z ∷ xs) ys zero x lt h = h
get-within (z ∷ xs) ys (suc i) x lt h = get-within xs ys i x (omega arith) h

get-before : (old new : List Node) → Extends old new → (i : ℕ) (x : Node) → i < length old → slice_get new i ≡ Some x → slice_get old i ≡ Some x
get-before old new h i x lt k = get-within old h.0 i x lt (subst (λ z. slice_get z i ≡ Some x) h.1 k)

pub denotes-before : {S : Type 0} (number : S → ℕ) (old new : List Node) → IsGraph old → Extends old new → (at : ℕ) (p : Pattern S) → at < length old →
    Denotes number new at p → Denotes number old at p
denotes-before number old new g h at Never lt d = get-before old new h at _ lt d
denotes-before number old new g h at Empty lt d = get-before old new h at _ lt d
denotes-before number old new g h at (One class) lt d = (d.0, get-before old new h at _ lt d.1, d.2)
denotes-before number old new g h at (Then p q) lt d =
    let e : slice_get old at ≡ Some (nodes.Then d.0 d.1) = get-before old new h at _ lt d.2 in
    let b = g at _ e in
    (d.0, d.1, e, denotes-before number old new g h d.0 p (omega (arith, b.0)) d.3, denotes-before number old new g h d.1 q (omega (arith, b.1)) d.4)
denotes-before number old new g h at (Or p q) lt d =
    let e : slice_get old at ≡ Some (nodes.Or d.0 d.1) = get-before old new h at _ lt d.2 in
    let b = g at _ e in
    (d.0, d.1, e, denotes-before number old new g h d.0 p (omega (arith, b.0)) d.3, denotes-before number old new g h d.1 q (omega (arith, b.1)) d.4)
denotes-before number old new g h at (Many p) lt d =
    let e : slice_get old at ≡ Some (nodes.Many d.0) = get-before old new h at _ lt d.1 in
    let b : d.0 < at = g at _ e in
    (d.0, e, denotes-before number old new g h d.0 p (omega arith) d.2)

-- ## tables when the patterns grow

pub lefts-grown : {S : Type 0} (number : S → ℕ) (old new : List Node) (at : ℕ) (lefts : List (Option Rest)) → IsGraph old → Grown old new at →
    KnowsLefts number old lefts → KnowsLefts number new lefts
lefts-grown number old new at lefts graph g k = record {
  is = λ s i v h.
      let t = k.is s i v h in (
        omega (arith, t.0, length-extends old new g.extends),
        omega (arith, t.1, length-extends old new g.extends),
        λ p d. denotes-extends number old new g.extends v.node (left s p) (t.2 p (denotes-before number old new graph g.extends i p t.0 d)),
        λ p d. t.3 p (denotes-before number old new graph g.extends v.node p t.1 d),
      );
}

-- What is left of nodes, where less or the same is known.
pub lefts-kept : {S : Type 0} (number : S → ℕ) (nodes : List Node) (old new : List (Option Rest)) → TellsNoMore old new → KnowsLefts number nodes old → KnowsLefts number nodes new
lefts-kept number nodes old new tells k = record { is = λ s i v h. k.is s i v (tells (i * 64 + number s) v h) }

pub starts-grown : {S C : Type 0} (number : S → ℕ) (section : C → ℕ) (pattern : C → Pattern S) (old new : List Node) (at : ℕ) (starts : List (Option ℕ)) → Grown old new at →
    KnowsStarts number section pattern old starts → KnowsStarts number section pattern new starts
starts-grown number section pattern old new at starts g k = record {
  count = k.count;
  is = λ c v h.
      let t = k.is c v h in
      (omega (arith, t.0, length-extends old new g.extends), denotes-extends number old new g.extends v (pattern c) t.1);
}

same-key : (i j m n : ℕ) → m < 64 → n < 64 → i * 64 + m ≡ j * 64 + n → (i ≡ j) × (m ≡ n)
same-key i j m n h k e = (omega arith, omega arith)

-- Two values with one number are one.
pub same-number : {X : Type 0} (number : X → ℕ) (all : List X) → ((x : X) → slice_get all (number x) ≡ Some x) → (x y : X) → number x ≡ number y → x ≡ y
same-number number all h x y e = let t : Some x ≡ Some y = sym (h x) ∙ ap (λ z. slice_get all z) e ∙ h y in cc

pub lefts-noted : {S : Type 0} (number : S → ℕ) (all : List S) (list : List Node) (old new : List (Option Rest)) (sort : S) (at : ℕ) (rest : Rest) →
    ((x : S) → slice_get all (number x) ≡ Some x) → length all ≤ 64 → KnowsLefts number list old → at < length list → rest.node < length list →
    ((p : Pattern S) → Denotes number list at p → Denotes number list rest.node (left sort p)) → IsStanding number list rest.node rest.standing →
    Notes old new (at * 64 + number sort) rest → KnowsLefts number list new
lefts-noted {S} number all list old new sort at rest listed few k a r f stands n = record {
  is = λ s i v h. elim (n (i * 64 + number s) v h) [
    | inl t ↦ k.is s i v t
    | inr t ↦
        let e = same-key i at (number s) (number sort) (number-below number all s (listed s) few) (number-below number all sort (listed sort) few) t.0 in
        let same : s ≡ sort = same-number number all listed s sort e.1 in
        let at_is : i ≡ at = e.0 in
        let rest_is : v ≡ rest = t.1 in (
          omega arith,
          subst (λ z. z.node < length list) (sym rest_is) r,
          λ p d.
              subst (λ z. Denotes number list z.node (left s p)) (sym rest_is) (subst (λ z. Denotes number list rest.node (left z p)) (sym same) (f p (subst (λ z. Denotes number list z p) at_is d))),
          subst (λ z. IsStanding number list z.node z.standing) (sym rest_is) stands,
        )
  ];
}

pub starts-noted : {S C : Type 0} (number : S → ℕ) (section : C → ℕ) (pattern : C → Pattern S) (all : List C) (list : List Node) (old new : List (Option ℕ)) (c : C) (at : ℕ) →
    ((x : C) → slice_get all (section x) ≡ Some x) → KnowsStarts number section pattern list old → at < length list → Denotes number list at (pattern c) →
    new ≡ set old (section c) (Some at) → KnowsStarts number section pattern list new
starts-noted {S} {C} number section pattern all list old new c at listed k within d e = record {
  count = ap length e ∙ length-set old (section c) (Some at) ∙ k.count;
  is = λ x v h. elim (get-set old (section c) (section x) (Some at) (Some v) (subst (λ z. slice_get z (section x) ≡ Some (Some v)) e h)) [
    | inl t ↦ k.is x v t
    | inr t ↦
        let same : x ≡ c = same-number section all listed x c t.0 in
        let node : at ≡ v = (let q : Some at ≡ Some v = t.1 in cc) in
        (omega arith, subst (λ z. Denotes number list z (pattern x)) node (subst (λ z. Denotes number list at (pattern z)) (sym same) d))
  ];
}

pub lefts-unknown : {S : Type 0} (number : S → ℕ) (list : List Node) (lefts : List (Option Rest)) → IsUnknown lefts → KnowsLefts number list lefts
lefts-unknown number list lefts u = record { is = λ s i v h. absurd (u (i * 64 + number s) v h) }

pub starts-unknown : {S C : Type 0} (number : S → ℕ) (section : C → ℕ) (pattern : C → Pattern S) (list : List Node) (starts : List (Option ℕ)) → IsUnknown starts → length starts ≡ 64 →
    KnowsStarts number section pattern list starts
starts-unknown number section pattern list starts u n = record { count = n; is = λ c v h. absurd (u (section c) v h) }

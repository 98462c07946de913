-- What a refusal names fails indeed, with the number that it names.
use Rattle.std.proofs.Common.{◌≡◌, ℕ, zero, suc, ◌<◌, inl, inr, ◌⊎◌, ℤ, pos, negsuc, neg_ℤ, ◌-ℤ◌, ◌<ℤ◌, arith, refl, sym, ap, subst, List, [], ◌∷◌, length, get_or, Option, Some, None, Bool, true, false, ◌&&◌}
use Rattle.std.proofs.lemmas.Int.{ints}
use lib.Signed.{le_z}
use Rattle.grid_net.specs.declared.part.Resistor.{Resistor}
use Rattle.bound_check.specs.declared.fails.Fails.{Fails}
use Rattle.bound_check.specs.declared.fails.Side.{Side}
use Rattle.bound_check.specs.declared.fails.Side.TheVariants.{HighValue, LowValue, HighFlow, LowFlow, High, Low}
use Rattle.rounding.specs.Rounding.{floor_div, ceil_div}
use Rattle.grid_net.specs.Network.{Network, pad_at}
use Rattle.grid_net.specs.Certificate.{value_limit, flow_limit, high_sum, low_sum}
use Rattle.grid_net.specs.Search.{or_else, first_below, first_of}
use Rattle.bound_check.specs.Failing.{unless, in_limit, value_test, flow_test, sum_test, values_round, flows_round, sums_round, IsOutside, IsFailing}

either_found : {X : Type 0} (a b : Option X) (x : X) → or_else a b ≡ Some x → (a ≡ Some x) ⊎ (b ≡ Some x)
either_found None b x e = inr e
either_found (Some y) b x e = inl e

below_found : {X : Type 0} (n : ℕ) (test : ℕ → Option X) (x : X) → first_below n test ≡ Some x → (i : ℕ) × (i < n) × (test i ≡ Some x)
below_found {X} zero test x e = absurd (let f : ◌≡◌ {A = Option X} None (Some x) = e in cc)
below_found (suc n) test x e = elim (either_found (first_below n test) (test n) x e) [
  | inl f ↦ (let h = below_found n test x f in (h.0, omega (arith, h.1), h.2))
  | inr f ↦ (n, omega arith, f)
]

of_found : {X Y : Type 0} (test : X → Option Y) (xs : List X) (y : Y) → first_of test xs ≡ Some y → (k : ℕ) × (k < length xs) × ((d : X) → test (get_or xs k d) ≡ Some y)
of_found {X} {Y} test [] y e = absurd (let f : ◌≡◌ {A = Option Y} None (Some y) = e in cc)
of_found test (x ∷ xs) y e = elim (either_found (test x) (first_of test xs) y e) [
  | inl f ↦ (0, omega arith, λ d. f)
  | inr f ↦ (let h = of_found test xs y f in (suc h.0, omega (arith, h.1), h.2))
]

named : (b : Bool) (node : ℕ) (side : Side) (found : ℤ) (f : Fails) → unless b node side found ≡ Some f → (b ≡ false) × (f ≡ record { node = node; side = side; found = found })
named true node side found f e = absurd (let g : ◌≡◌ {A = Option Fails} None (Some f) = e in cc)
named false node side found f e = (refl, cc)

not_le : (x y : ℤ) → le_z x y ≡ false → y <ℤ x
not_le x y e = omega (arith, ints)

outside : (limit : ℕ) (z : ℤ) → in_limit limit z ≡ false → IsOutside limit z
outside limit z e = by_test (le_z (neg_ℤ (pos limit)) z) (le_z z (pos limit)) refl refl e
  where
    by_test : (s t : Bool) → le_z (neg_ℤ (pos limit)) z ≡ s → le_z z (pos limit) ≡ t → (s && t) ≡ false → IsOutside limit z
    by_test false t a b e = inl (not_le (neg_ℤ (pos limit)) z a)
    by_test true false a b e = inr (not_le z (pos limit) b)
    by_test true true a b e = cc

module _ (net : Network) (high low : ℕ → ℤ) where
  abbrev IsTrue : Fails → Type 0
  IsTrue f = IsFailing net high low f.node f.side f.found

  -- One of two tests.
  one_of : (f : Fails) (a b : Bool) (node node' : ℕ) (side side' : Side) (found found' : ℤ) → or_else (unless a node side found) (unless b node' side' found') ≡ Some f → (a ≡ false → IsFailing net high low node side found) → (b ≡ false → IsFailing net high low node' side' found') → IsTrue f
  one_of f a b node node' side side' found found' e h k = elim (either_found (unless a node side found) (unless b node' side' found') f e) [
    | inl g ↦ (let n = named a node side found f g in subst IsTrue (sym n.1) (h n.0))
    | inr g ↦ (let n = named b node' side' found' f g in subst IsTrue (sym n.1) (k n.0))
  ]

  value_named : (f : Fails) (i : ℕ) → i < net.nodes → value_test high low i ≡ Some f → IsTrue f
  value_named f i l e =
      one_of f (in_limit value_limit (high i)) (in_limit value_limit (low i)) i i HighValue LowValue (high i) (low i) e
      (λ out. (l, refl, outside value_limit (high i) out))
      (λ out. (l, refl, outside value_limit (low i) out))

  flow_named : (f : Fails) (k : ℕ) → k < length net.resistors → (r : Resistor) → ((d : Resistor) → get_or net.resistors k d ≡ r) → flow_test high low r ≡ Some f → IsTrue f
  flow_named f k l r is e =
      let of_high = floor_div (high r.a -ℤ high r.b) r.ohms in
      let of_low = ceil_div (low r.a -ℤ low r.b) r.ohms in
      one_of f (in_limit flow_limit of_high) (in_limit flow_limit of_low) r.a r.a HighFlow LowFlow of_high of_low e
      (λ out. ((k, l, λ d. (ap (λ (x : Resistor). x.a) (is d), ap (λ (x : Resistor). floor_div (high x.a -ℤ high x.b) x.ohms) (sym (is d)))), outside flow_limit of_high out))
      (λ out. ((k, l, λ d. (ap (λ (x : Resistor). x.a) (is d), ap (λ (x : Resistor). ceil_div (low x.a -ℤ low x.b) x.ohms) (sym (is d)))), outside flow_limit of_low out))

  sum_named : (f : Fails) (i : ℕ) → i < net.nodes → (o : Option ℤ) → pad_at net i ≡ o → sum_test net high low i o ≡ Some f → IsTrue f
  sum_named f i l (Some v) pad e =
      one_of f (le_z (pos 0) (high i -ℤ v)) (le_z (low i -ℤ v) (pos 0)) i i High Low (high i -ℤ v) (low i -ℤ v) e
      (λ out. (l, inl (v, pad, refl, not_le (pos 0) (high i -ℤ v) out)))
      (λ out. (l, inl (v, pad, refl, not_le (low i -ℤ v) (pos 0) out)))
  sum_named f i l None pad e =
      one_of f (le_z (pos 1) (high_sum net high i)) (le_z (low_sum net low i) (negsuc 0)) i i High Low (high_sum net high i) (low_sum net low i) e
      (λ out. (l, inr (pad, refl, not_le (pos 1) (high_sum net high i) out)))
      (λ out. (l, inr (pad, refl, not_le (low_sum net low i) (negsuc 0) out)))

  values_named : (f : Fails) → values_round net high low ≡ Some f → IsTrue f
  values_named f e = let h = below_found net.nodes (value_test high low) f e in value_named f h.0 h.1 h.2

  sums_named : (f : Fails) → sums_round net high low ≡ Some f → IsTrue f
  sums_named f e = let h = below_found net.nodes (λ i. sum_test net high low i (pad_at net i)) f e in sum_named f h.0 h.1 (pad_at net h.0) refl h.2

  any_resistor : Resistor
  any_resistor = record { a = 0; b = 0; ohms = pos 1 }

  flows_named : (f : Fails) → flows_round net high low ≡ Some f → IsTrue f
  flows_named f e =
      let h = of_found (flow_test high low) net.resistors f e in
      flow_named f h.0 h.1 (get_or net.resistors h.0 any_resistor) (λ d. get_or_same net.resistors h.0 d any_resistor h.1) (h.2 any_resistor)
    where
      get_or_same : (xs : List Resistor) (k : ℕ) (d e : Resistor) → k < length xs → get_or xs k d ≡ get_or xs k e
      get_or_same [] k d e l = absurd (omega arith)
      get_or_same (x ∷ xs) zero d e l = refl
      get_or_same (x ∷ xs) (suc k) d e l = get_or_same xs k d e (omega arith)

  pub rounds_named : (f : Fails) → or_else (values_round net high low) (or_else (flows_round net high low) (sums_round net high low)) ≡ Some f → IsTrue f
  rounds_named f e = elim (either_found (values_round net high low) (or_else (flows_round net high low) (sums_round net high low)) f e) [
    | inl g ↦ values_named f g
    | inr g ↦ elim (either_found (flows_round net high low) (sums_round net high low) f g) [ inl k ↦ flows_named f k | inr k ↦ sums_named f k ]
  ]

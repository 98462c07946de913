-- The reach of a network is more than what the cuts need.
use Rattle.std.proofs.Common.{◌≡◌, ℕ, zero, suc, ◌+◌, ◌*◌, ◌<◌, ◌≤◌, inl, inr, arith, refl, List, [], ◌∷◌, length, All, Bool, true, false, cond, ◌||◌, eqb, eq-eqb}
use Rattle.std.proofs.lemmas.Bool.{cases_eq}
use Rattle.std.proofs.lemmas.List.Elements.{All-head, All-tail}
use Rattle.grid_net.specs.declared.part.Resistor.{Resistor}
use Rattle.grid_net.specs.Network.{Network, IsNetwork, IsResistorOf, load_size, degree, over_nodes, total_load}
use Rattle.bound_make.specs.Scale.{flow_reach}
use Rattle.bound_make.proofs.Lift.{allowed, over_same}

pub over_le : (n : ℕ) (f g : ℕ → ℕ) → ((i : ℕ) → f i ≤ g i) → over_nodes n f ≤ over_nodes n g
over_le zero f g h = omega arith
over_le (suc n) f g h = let a = over_le n f g h in let b = h n in omega arith

pub over_add : (n : ℕ) (f g : ℕ → ℕ) → over_nodes n (λ i. f i + g i) ≡ over_nodes n f + over_nodes n g
over_add zero f g = refl
over_add (suc n) f g = let a = over_add n f g in omega arith

pub over_times : (n m : ℕ) (f : ℕ → ℕ) → over_nodes n (λ i. m * f i) ≡ m * over_nodes n f
over_times zero m f = omega arith
over_times (suc n) m f = let a = over_times n m f in omega arith

one_if : (s t : Bool) → s ≡ true → 1 ≤ cond (s || t) 1 0
one_if true t e = omega arith
one_if false t e = cc

counts_one : (n a : ℕ) (t : ℕ → Bool) → a < n → 1 ≤ over_nodes n (λ i. cond (eqb a i || t i) 1 0)
counts_one zero a t l = absurd (omega arith)
counts_one (suc n) a t l = elim (cases_eq a n) [
  | inl e ↦ let h = one_if (eqb a n) (t n) (eq-eqb a n e) in omega arith
  | inr ne ↦ let h = counts_one n a t (omega arith) in omega arith
]

-- Each resistor stands at one node at least.
pub resistors_le_degrees : (n : ℕ) (rs : List Resistor) → All (IsResistorOf n) rs → length rs ≤ over_nodes n (degree rs)
resistors_le_degrees n [] all = omega arith
resistors_le_degrees n (r ∷ rs) all =
    let rest = resistors_le_degrees n rs (All-tail (IsResistorOf n) r rs all) in
    let of_r = All-head (IsResistorOf n) r rs all in
    let here = counts_one n r.a (λ i. eqb r.b i) of_r.a_is_node in
    let split = over_add n (λ i. cond (eqb r.a i || eqb r.b i) 1 0) (degree rs) in
    omega arith

module _ (net : Network) (wf : IsNetwork net) where
  abbrev pub degrees : ℕ
  degrees = over_nodes net.nodes (degree net.resistors)

  pub reach_is : flow_reach net ≡ total_load net + 130 * (degrees + net.nodes)
  reach_is = let a = over_add net.nodes (degree net.resistors) (λ i. 1) in let b = over_same net.nodes 1 in omega arith

  -- What a lift on its way may send over a cut.
  pub allowed_room : 0 < net.nodes → over_nodes net.nodes (allowed net) + length net.resistors < flow_reach net
  allowed_room h =
      let a = over_add net.nodes (λ i. load_size net i) (degree net.resistors) in
      let b = resistors_le_degrees net.nodes net.resistors wf.each_resistor in
      omega (arith, reach_is)

  -- What a tight list may send over a cut.
  abbrev pub tight_limit : ℕ → ℕ
  tight_limit i = load_size net i + (64 * (degree net.resistors i + 1) + 1)

  pub tight_room : over_nodes net.nodes tight_limit + length net.resistors ≤ flow_reach net
  tight_room =
      let a = over_add net.nodes (λ i. load_size net i) (λ i. 64 * (degree net.resistors i + 1) + 1) in
      let b = over_add net.nodes (λ i. 64 * (degree net.resistors i + 1)) (λ i. 1) in
      let c = over_times net.nodes 64 (λ i. degree net.resistors i + 1) in
      let d = over_add net.nodes (degree net.resistors) (λ i. 1) in
      let e = over_same net.nodes 1 in
      let f = resistors_le_degrees net.nodes net.resistors wf.each_resistor in
      omega (arith, reach_is)

-- The numbers within which the lists of a network are made.
use Rattle.std.proofs.Common.{◌≡◌, ℕ, ◌+◌, ◌*◌, ◌<◌, ◌⊎◌, inl, inr, ℤ, pos, ◌*ℤ◌, ◌≤ℤ◌, arith, refl, sym, ap, ◌∙◌, subst, List, length, get_or, ◌≤◌, ◌^◌, unsigned_abs, mul-le-mul}
use Rattle.std.specs.Int.{int_min, int_max}
use Rattle.std.proofs.lemmas.Int.{ints, clamps, by_lt_z}
use Rattle.std.proofs.lemmas.Bool.{cases_eq}
use Rattle.grid_net.specs.declared.part.Pad.{Pad}
use Rattle.std.proofs.lemmas.List.{get_or_default}
use Rattle.grid_net.specs.Laws.Pads.{first_is_of_list}
use Rattle.grid_net.specs.Network.{Network}
use Rattle.grid_net.specs.Limits.{IsBuilt, IsInLimit}
use Rattle.bound_make.specs.inside.Raising.{PadsWithin, FitsLimits}
use Rattle.bound_make.specs.Scale.{margin, flow_reach}
use Rattle.grid_net.specs.inside.Flows.{no_resistor}
use Rattle.bound_make.specs.Scale.{IsGreatestLevel, IsGreatestOf, IsLeastVolts, IsGreatestVolts, IsScaleOf}
use Rattle.bound_make.specs.inside.Made.{IsRangeOf, HasRoom}
use Rattle.bound_make.proofs.Limits.{level_below_nodes, supplied_by_levels, reach_fits, range_fits}

no_pad : Pad
no_pad = record { node = 0; volts = pos 0 }

abbrev IsMet : List Pad → ℤ → Type 0
IsMet pads z = ((length pads ≡ 0) × (z ≡ pos 0)) ⊎ ((place : ℕ) × (place < length pads) × ((d : Pad) → (get_or pads place d).volts ≡ z))

-- A pad of the list that has the number.
met_here : (pads : List Pad) (k : ℕ) (e : Pad) (z : ℤ) → k < length pads → z ≡ (get_or pads k e).volts → IsMet pads z
met_here pads k e z l is = inr (k, l, λ d. ap (λ (p : Pad). p.volts) (get_or_default pads k d e l) ∙ sym is)

met_still : (pads : List Pad) (old new : ℤ) → new ≡ old → IsMet pads old → IsMet pads new
met_still pads old new e (inl (a, b)) = inl (a, e ∙ b)
met_still pads old new e (inr (place, l, at)) = inr (place, l, λ d. at d ∙ sym e)

module _ (pads : List Pad) (k : ℕ) (e : Pad) (old new : ℤ) (l : k < length pads) (met : IsMet pads old) where
  abbrev here : ℤ
  here = (get_or pads k e).volts

  pub least_step : new ≡ int_min here old → ((i : ℕ) (d : Pad) → i < k → old ≤ℤ (get_or pads i d).volts) → ((i : ℕ) (d : Pad) → i < k + 1 → new ≤ℤ (get_or pads i d).volts) × IsMet pads new
  least_step is each = (
    λ i d m. elim (cases_eq i k) [
      | inl same ↦ omega (arith, ints, clamps, is, ap (λ (p : Pad). p.volts) (get_or_default pads k d e l), ap (λ (j : ℕ). (get_or pads j d).volts) same)
      | inr ne ↦ (let h = each i d (omega arith) in omega (arith, ints, clamps, is, h))
    ],
    by_lt_z here old (λ lt. met_here pads k e new l (omega (arith, ints, clamps, is, lt))) (λ le. met_still pads old new (omega (arith, ints, clamps, is, le)) met),
  )

  pub greatest_step : new ≡ int_max here old → ((i : ℕ) (d : Pad) → i < k → (get_or pads i d).volts ≤ℤ old) → ((i : ℕ) (d : Pad) → i < k + 1 → (get_or pads i d).volts ≤ℤ new) × IsMet pads new
  greatest_step is each = (
    λ i d m. elim (cases_eq i k) [
      | inl same ↦ omega (arith, ints, clamps, is, ap (λ (p : Pad). p.volts) (get_or_default pads k d e l), ap (λ (j : ℕ). (get_or pads j d).volts) same)
      | inr ne ↦ (let h = each i d (omega arith) in omega (arith, ints, clamps, is, h))
    ],
    by_lt_z old here (λ lt. met_here pads k e new l (omega (arith, ints, clamps, is, lt))) (λ le. met_still pads old new (omega (arith, ints, clamps, is, le)) met),
  )

-- ---- what the numbers of a built network keep to
within_of : (z : ℤ) (v : ℤ) (m : ℕ) → IsInLimit m v → v ≡ z → IsInLimit m z
within_of z v m h e = subst (IsInLimit m) e h

-- The greatest level of a built network, its least and greatest pad voltage, and its greatest resistance.
pub record IsMeasured (net : Network) (k : ℕ) (b t o : ℤ) : Type 0 where
  pub built : IsBuilt net
  pub level : IsGreatestLevel net k
  pub low : IsLeastVolts net.pads b
  pub high : IsGreatestVolts net.pads t
  pub most : IsGreatestOf net.resistors o

module _ (net : Network) (k : ℕ) (b t o : ℤ) (m : IsMeasured net k b t o) where
  abbrev r : ℕ
  r = unsigned_abs o

  bottom_fits : IsInLimit (10 ^ 25) b
  bottom_fits = elim m.low.met [
    | inl (e, z) ↦ (omega (arith, ints, z), omega (arith, ints, z))
    | inr (place, l, at) ↦ within_of b (get_or net.pads place no_pad).volts (10 ^ 25) (m.built.voltages place no_pad l) (at no_pad)
  ]

  top_fits : IsInLimit (10 ^ 25) t
  top_fits = elim m.high.met [
    | inl (e, z) ↦ (omega (arith, ints, z), omega (arith, ints, z))
    | inr (place, l, at) ↦ within_of t (get_or net.pads place no_pad).volts (10 ^ 25) (m.built.voltages place no_pad l) (at no_pad)
  ]

  pub order : b ≤ℤ t
  order = elim m.low.met [
    | inl (e, z) ↦ elim m.high.met [
      | inl (f, y) ↦ omega (arith, ints, z, y)
      | inr (place, l, at) ↦ absurd (omega (arith, e, l))
    ]
    | inr (place, l, at) ↦ (let h = m.high.each place no_pad l in let e = at no_pad in omega (arith, ints, h, e))
  ]

  pub ohms_is : o ≡ pos r
  ohms_is = elim m.most.met [
    | inl (e, z) ↦ omega (arith, ints, z)
    | inr (place, l, at) ↦ (let one = (m.built.is_network.each_resistor place no_resistor l).resists in let e = at no_resistor in omega (arith, ints, one, e))
  ]

  pub ohms_fit : r ≤ 10 ^ 12
  ohms_fit = elim m.most.met [
    | inl (e, z) ↦ omega (arith, ints, z)
    | inr (place, l, at) ↦ (let few = m.built.resistances place no_resistor l in let e = at no_resistor in let p = ohms_is in omega (arith, ints, few, e, p))
  ]

  levels_fit : k ≤ net.nodes
  levels_fit = elim m.level.met [
    | inl (e, z) ↦ omega (arith, z)
    | inr (i, l, is) ↦ (let h = level_below_nodes net i k l is in omega (arith, h))
  ]

  pads_within : PadsWithin net b t
  pads_within = record {
    at_least = λ i v l e. (let q = first_is_of_list (λ (p : Pad). b ≤ℤ p.volts) net.pads i v m.low.each e in omega (arith, ints, q.2, q.3));
    at_most = λ i v l e. (let q = first_is_of_list (λ (p : Pad). p.volts ≤ℤ t) net.pads i v m.high.each e in omega (arith, ints, q.2, q.3));
  }

  fits : FitsLimits net k r b t
  fits = record { nodes = m.built.few_nodes; resistors = m.built.few_resistors; loads = m.built.loads_in_limit; levels = levels_fit; ohms = ohms_fit; bottom_fits = bottom_fits.0; top_fits = top_fits.1 }

  pub range : IsRangeOf net b t (margin net k r)
  range = record {
    level = k;
    ohms = r;
    supplied = supplied_by_levels net k m.level.each;
    resists = λ place d l. (let h = m.most.each place d l in let p = ohms_is in omega (arith, ints, h, p));
    pads = pads_within;
    width_is = refl;
    fits = fits;
  }

  pub width_fits : 2 * margin net k r ≤ 5 * 10 ^ 36
  width_fits = let h = range_fits net m.built.is_network k r m.built.few_nodes m.built.few_resistors m.built.loads_in_limit levels_fit ohms_fit in omega arith

  pub reach_fits_in : flow_reach net ≤ 2 * 10 ^ 18
  reach_fits_in = let h = reach_fits net m.built.is_network k r m.built.few_nodes m.built.few_resistors m.built.loads_in_limit levels_fit ohms_fit in omega arith

  pub product_fits : r * flow_reach net ≤ 10 ^ 12 * (2 * 10 ^ 18)
  product_fits = mul-le-mul ohms_fit reach_fits_in

  pub product_is : (sum : ℤ) → sum ≡ pos (flow_reach net) → o *ℤ sum ≡ pos (r * flow_reach net)
  product_is sum e = ap (λ z. z *ℤ sum) ohms_is ∙ ap (λ z. pos r *ℤ z) e

  pub width_is : (sum : ℤ) → sum ≡ pos (flow_reach net) → pos k *ℤ (o *ℤ sum) ≡ pos (margin net k r)
  width_is sum e = ap (λ z. pos k *ℤ z) (product_is sum e)

  pub room : HasRoom b t (pos (margin net k r))
  room = record { least = bottom_fits.0; order = order; most = top_fits.1; width_least = omega (arith, ints); width_most = omega (arith, ints, width_fits) }

  pub scale : IsScaleOf net (record { level = k; ohms = r; bottom = b; top = t })
  scale = record { level = m.level; ohms = subst (IsGreatestOf net.resistors) ohms_is m.most; low_end = m.low; high_end = m.high }

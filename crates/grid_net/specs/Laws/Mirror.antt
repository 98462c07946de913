-- The mirrored network, in which each voltage and each load is turned in sign.
use Rattle.std.proofs.Common.{◌≡◌, ℕ, zero, suc, ℤ, pos, neg_ℤ, ◌+ℤ◌, ◌-ℤ◌, arith, refl, sym, ap, ◌∙◌, List, [], ◌∷◌, map, Option, Some, None, Bool, true, false, cond, eqb, option_map, All, get_or, ◌≤ℤ◌}
use Rattle.std.proofs.lemmas.Int.{ints}
use Rattle.std.proofs.lemmas.List.Elements.{All-head, All-tail, All-cons, All-nil}
use Rattle.std.proofs.Math.IntN.{neg_ℤ-neg_ℤ}
use Rattle.grid_net.specs.declared.part.Resistor.{Resistor}
use Rattle.grid_net.specs.declared.part.Pad.{Pad}
use Rattle.grid_net.specs.declared.part.LoadRange.{LoadRange}
use Rattle.grid_net.specs.Network.{Network, IsNetwork, FlowRule, outflow, low_load, high_load, pad_at, first_pad}
use Rattle.grid_net.specs.Mirror.{turned_rule, turned_pad, turned_load, mirror}

-- ---- loads and pads
abbrev no_load : LoadRange
no_load = record { low = pos 0; high = pos 0 }

abbrev IsRange : LoadRange → Type 0
IsRange l = l.low ≤ℤ l.high

load_turned : (xs : List LoadRange) (i : ℕ)
    → (get_or (map turned_load xs) i no_load).low ≡ neg_ℤ (get_or xs i no_load).high
load_turned [] i = refl
load_turned (x ∷ xs) zero = refl
load_turned (x ∷ xs) (suc i) = load_turned xs i

high_turned : (xs : List LoadRange) (i : ℕ)
    → (get_or (map turned_load xs) i no_load).high ≡ neg_ℤ (get_or xs i no_load).low
high_turned [] i = refl
high_turned (x ∷ xs) zero = refl
high_turned (x ∷ xs) (suc i) = high_turned xs i

pub ranges_turned : (xs : List LoadRange) → All IsRange xs → All IsRange (map turned_load xs)
ranges_turned [] all = All-nil IsRange
ranges_turned (x ∷ xs) all =
    let here : x.low ≤ℤ x.high = All-head IsRange x xs all in
    All-cons IsRange (turned_load x) (map turned_load xs) (omega (arith, ints, here))
    (ranges_turned xs (All-tail IsRange x xs all))

pad_turned : (ps : List Pad) (i : ℕ) → first_pad (map turned_pad ps) i ≡ option_map neg_ℤ (first_pad ps i)
pad_turned [] i = refl
pad_turned (p ∷ ps) i = here (eqb p.node i) (pad_turned ps i)
  where
    here : (s : Bool) → first_pad (map turned_pad ps) i ≡ option_map neg_ℤ (first_pad ps i)
        → cond s (Some (neg_ℤ p.volts)) (first_pad (map turned_pad ps) i) ≡ option_map neg_ℤ (cond s (Some p.volts)
        (first_pad ps i))
    here true e = refl
    here false e = e

module _ (net : Network) where
  pub no_pad_out : (i : ℕ) → pad_at (mirror net) i ≡ None → pad_at net i ≡ None
  no_pad_out i e = by_pad (pad_at net i) (sym (pad_turned net.pads i) ∙ e)
    where
      by_pad : (o : Option ℤ) → option_map neg_ℤ o ≡ None → o ≡ None
      by_pad None f = refl
      by_pad (Some v) f = cc

  pub no_pad_in : (i : ℕ) → pad_at net i ≡ None → pad_at (mirror net) i ≡ None
  no_pad_in i e = pad_turned net.pads i ∙ ap (option_map neg_ℤ) e

  pub pad_out : (i : ℕ) (v : ℤ) → pad_at (mirror net) i ≡ Some v → pad_at net i ≡ Some (neg_ℤ v)
  pad_out i v e = by_pad (pad_at net i) (sym (pad_turned net.pads i) ∙ e)
    where
      by_pad : (o : Option ℤ) → option_map neg_ℤ o ≡ Some v → o ≡ Some (neg_ℤ v)
      by_pad None f = cc
      by_pad (Some u) f = let same : neg_ℤ u ≡ v = cc in ap Some (sym (neg_ℤ-neg_ℤ u) ∙ ap neg_ℤ same)

  pub pad_in : (i : ℕ) (v : ℤ) → pad_at net i ≡ Some v → pad_at (mirror net) i ≡ Some (neg_ℤ v)
  pad_in i v e = pad_turned net.pads i ∙ ap (option_map neg_ℤ) e

  pub load_in : (i : ℕ) → low_load (mirror net) i ≡ neg_ℤ (high_load net i)
  load_in i = load_turned net.loads i

  pub high_in : (i : ℕ) → high_load (mirror net) i ≡ neg_ℤ (low_load net i)
  high_in i = high_turned net.loads i

-- ---- sums
pub outflow_turned : (rule : FlowRule) (rs : List Resistor) (x z : ℕ → ℤ) (i : ℕ) → ((j : ℕ) → x j ≡ neg_ℤ (z j))
    → outflow (turned_rule rule) rs x i ≡ neg_ℤ (outflow rule rs z i)
outflow_turned rule [] x z i is = refl
outflow_turned rule (r ∷ rs) x z i is =
    let a = is r.a in
    let b = is r.b in
    let ab : neg_ℤ (x r.a -ℤ x r.b) ≡ z r.a -ℤ z r.b = omega (arith, ints) in
    let ba : neg_ℤ (x r.b -ℤ x r.a) ≡ z r.b -ℤ z r.a = omega (arith, ints) in
    let e = taken_turned (eqb r.a i) (eqb r.b i) (rule (neg_ℤ (x r.a -ℤ x r.b)) r.ohms)
    (rule (neg_ℤ (x r.b -ℤ x r.a)) r.ohms) (rule (z r.a -ℤ z r.b) r.ohms) (rule (z r.b -ℤ z r.a) r.ohms)
    (ap (λ d. rule d r.ohms) ab) (ap (λ d. rule d r.ohms) ba) in
    omega (arith, ints, e, outflow_turned rule rs x z i is)
  where
    taken_turned : (s t : Bool) (u v u' v' : ℤ) → u ≡ u' → v ≡ v'
        → cond s (neg_ℤ u) (pos 0) +ℤ cond t (neg_ℤ v) (pos 0) ≡ neg_ℤ (cond s u' (pos 0) +ℤ cond t v' (pos 0))
    taken_turned true true u v u' v' e f = omega (arith, ints)
    taken_turned true false u v u' v' e f = omega (arith, ints)
    taken_turned false true u v u' v' e f = omega (arith, ints)
    taken_turned false false u v u' v' e f = omega (arith, ints)

pub mirror_network : (net : Network) → IsNetwork net → IsNetwork (mirror net)
mirror_network net wf = record { each_resistor = wf.each_resistor; each_load = ranges_turned net.loads wf.each_load }

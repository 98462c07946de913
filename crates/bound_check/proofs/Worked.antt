-- The worked network has a solution, and two lists that pass.
use Rattle.std.proofs.Common.{◌≡◌, ℕ, zero, suc, ◌<◌, ℤ, pos, neg_ℤ, ◌-ℤ◌, ◌*ℤ◌, ◌≤ℤ◌, arith, refl, subst, [], ◌∷◌, get_or, Some, None}
use lib.Signed.{le_z_yes}
use Rattle.std.proofs.lemmas.Int.{ints}
use Rattle.std.proofs.lemmas.List.Elements.{All-cons, All-nil}
use Rattle.grid_net.specs.declared.part.Resistor.{Resistor}
use Rattle.grid_net.specs.declared.part.LoadRange.{LoadRange}
use Rattle.grid_net.specs.Network.{IsNetwork, IsResistorOf, pad_at, low_load, high_load, net_current}
use Rattle.grid_net.specs.Solution.{IsSolution}
use Rattle.grid_net.specs.Certificate.{IsCertificate}
use Rattle.bound_check.specs.Example.{example, example_potential, example_current, example_drawn, example_high, example_low}
use Rattle.bound_check.proofs.Failing.{passes_from_none}

abbrev IsRange : LoadRange → Type 0
IsRange l = l.low ≤ℤ l.high

pub example_is_network : IsNetwork example
example_is_network = record { each_resistor = All-cons (IsResistorOf 2) (record { a = 1; b = 0; ohms = pos 1000000000 }) [] (record { a_is_node = omega arith; b_is_node = omega arith; resists = omega (arith, ints) }) (All-nil (IsResistorOf 2)); each_load = All-cons IsRange (record { low = pos 1000000000000; high = pos 1000000000000 }) (record { low = pos 0; high = pos 0 } ∷ []) (omega (arith, ints)) (All-cons IsRange (record { low = pos 0; high = pos 0 }) [] (omega (arith, ints)) (All-nil IsRange)) }

-- What holds at node 1, where the pad stands, and at node 0.
at_pads : (P : ℕ → ℤ → Type 0) → P 1 (pos 1000000000000000000000000) → (i : ℕ) (v : ℤ) → i < 2 → pad_at example i ≡ Some v → P i v
at_pads P h zero v l e = cc
at_pads P h (suc zero) v l e = let same : pos 1000000000000000000000000 ≡ v = cc in subst (P 1) same h
at_pads P h (suc (suc i)) v l e = absurd (omega arith)

elsewhere : (P : ℕ → Type 0) → P 0 → (i : ℕ) → i < 2 → pad_at example i ≡ None → P i
elsewhere P h zero l e = h
elsewhere P h (suc zero) l e = cc
elsewhere P h (suc (suc i)) l e = absurd (omega arith)

example_ohm : (k : ℕ) (d : Resistor) → k < 1 → let r = get_or example.resistors k d in example_potential r.a -ℤ example_potential r.b ≡ r.ohms *ℤ example_current k
example_ohm zero d l = refl
example_ohm (suc k) d l = absurd (omega arith)

example_within : (i : ℕ) → i < 2 → ((pos 1 *ℤ low_load example i) ≤ℤ example_drawn i) × (example_drawn i ≤ℤ (pos 1 *ℤ high_load example i))
example_within zero l = (le_z_yes tt, le_z_yes tt)
example_within (suc zero) l = (le_z_yes tt, le_z_yes tt)
example_within (suc (suc i)) l = absurd (omega arith)

pub example_has_solution : IsSolution example 1 example_potential example_current example_drawn
example_has_solution = record {
  denominator = omega arith;
  ohm = example_ohm;
  kirchhoff = elsewhere (λ i. net_current example.resistors example_current i ≡ neg_ℤ (example_drawn i)) refl;
  drawn = example_within;
  pads = at_pads (λ i v. example_potential i ≡ pos 1 *ℤ v) refl;
}

pub example_passes : IsCertificate example example_high example_low
example_passes = passes_from_none example example_high example_low refl

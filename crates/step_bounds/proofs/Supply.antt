-- What a network's chains of resistors reach, they reach where more resistors and nodes are added.
use Rattle.std.proofs.Common.{◌≡◌, ℕ, zero, suc, ◌<◌, ◌≤◌, inl, inr, arith, ◌∙◌, length, get_or, ap}
use Rattle.grid_net.specs.declared.part.Resistor.{Resistor}
use Rattle.grid_net.specs.Network.{Network, pad_at}
use Rattle.grid_net.specs.Level.{AreJoined, IsWithin, IsSupplied}

-- A network has the nodes of another with their pads, and its resistors at their places.
pub record Extends (small large : Network) : Type 0 where
  pub nodes : small.nodes ≤ large.nodes
  pub resistors : length small.resistors ≤ length large.resistors
  pub places : (k : ℕ) (d : Resistor) → k < length small.resistors → get_or large.resistors k d ≡ get_or small.resistors k d
  pub pads : (i : ℕ) → i < small.nodes → pad_at large i ≡ pad_at small i

module _ (small large : Network) (e : Extends small large) where
  joined : (i j : ℕ) → AreJoined small i j → AreJoined large i j
  joined i j h = record {
    place = h.place;
    in_list = omega (arith, h.in_list, e.resistors);
    ends = λ d. (let at = e.places h.place d h.in_list in
        let a = ap (λ (r : Resistor). r.a) at in
        let b = ap (λ (r : Resistor). r.b) at in
        elim (h.ends d) [
          | inl s ↦ inl (a ∙ s.0, b ∙ s.1)
          | inr s ↦ inr (a ∙ s.0, b ∙ s.1)
        ]);
  }

  within : (k i : ℕ) → i < small.nodes → IsWithin small k i → IsWithin large k i
  within zero i l h = (h.0, e.pads i l ∙ h.1)
  within (suc k) i l h = elim h [
    | inl near ↦ inl (within k i l near)
    | inr far ↦ inr (far.0, omega (arith, far.1, e.nodes), joined i far.0 far.2, within k far.0 far.1 far.3)
  ]

  pub supplied : (i : ℕ) → i < small.nodes → IsSupplied small i → IsSupplied large i
  supplied i l h = (h.0, within h.0 i l h.1)

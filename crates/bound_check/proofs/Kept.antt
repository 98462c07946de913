-- What a kept certificate says of the solutions of its network, and how close its bounds are.
use Rattle.std.proofs.Common.{◌∙◌, ap, List, ◌≡◌, ℕ, ◌<◌, ℤ, pos, ◌+ℤ◌, ◌-ℤ◌, ◌*ℤ◌, ◌≤ℤ◌, ◌<ℤ◌, arith, sym, subst, length, get_or}
use Rattle.std.proofs.lemmas.Int.{ints}
use Rattle.std.proofs.lemmas.List.{get_or_default}
use Rattle.rounding.specs.Rounding.{floor_div, ceil_div}
use Rattle.grid_net.specs.declared.part.Resistor.{Resistor}
use Rattle.grid_net.specs.Network.{IsNetwork, IsResistorOf, entry_of}
use Rattle.grid_net.specs.Solution.{IsSolution}
use Rattle.grid_net.specs.Certificate.{IsRising}
use Rattle.bound_check.specs.Certified.{Certificate, IsKept, least_current, greatest_current, nanovolt, nanoampere, LiesWithin}
use Rattle.bound_check.proofs.Principle.{solution_at_most_high, solution_at_least_low, currents_between}
use Rattle.bound_check.proofs.Tightness.{gap_at_most_rising}
use Rattle.bound_check.proofs.Printed.{within_units, outward_width, current_width, printed_width}

module _ (c : Certificate) (kept : IsKept c) (wf : IsNetwork c.net) where
  pub at_most_high : (q : ℕ) (p cs drawn : ℕ → ℤ) → IsSolution c.net q p cs drawn → (i : ℕ) → i < c.net.nodes → p i ≤ℤ (pos q *ℤ entry_of c.high i)
  at_most_high q p cs drawn sol i l = solution_at_most_high c.net q p cs drawn (entry_of c.high) wf sol kept.certificate.high_half.holds i l

  pub at_least_low : (q : ℕ) (p cs drawn : ℕ → ℤ) → IsSolution c.net q p cs drawn → (i : ℕ) → i < c.net.nodes → (pos q *ℤ entry_of c.low i) ≤ℤ p i
  at_least_low q p cs drawn sol i l = solution_at_least_low c.net q p cs drawn (entry_of c.low) wf sol kept.certificate.low_half.holds i l

  pub gap : (w : ℕ → ℤ) → IsRising c.net w → (i : ℕ) → i < c.net.nodes → (entry_of c.high i -ℤ entry_of c.low i) ≤ℤ w i
  gap w rising i l = gap_at_most_rising c.net c.high c.low w wf kept.tight rising i l

  module _ (i : ℕ) (l : i < c.net.nodes) (from to : ℤ) (is_from : from ≡ floor_div (entry_of c.low i) (pos nanovolt)) (is_to : to ≡ ceil_div (entry_of c.high i) (pos nanovolt)) where
    pub voltage_bounds : (q : ℕ) (p cs drawn : ℕ → ℤ) → IsSolution c.net q p cs drawn → LiesWithin nanovolt q (p i) (from, to)
    voltage_bounds q p cs drawn sol =
        let both = within_units nanovolt q (entry_of c.low i) (entry_of c.high i) (p i) (omega arith) (at_least_low q p cs drawn sol i l) (at_most_high q p cs drawn sol i l) in
        subst (λ (z : ℤ). LiesWithin nanovolt q (p i) (z, to)) (sym is_from) (subst (λ (z : ℤ). LiesWithin nanovolt q (p i) (floor_div (entry_of c.low i) (pos nanovolt), z)) (sym is_to) both)

    pub voltage_width : (w : ℕ → ℤ) → IsRising c.net w → (pos nanovolt *ℤ ((to -ℤ from) -ℤ pos 2)) <ℤ w i
    voltage_width w rising =
        let below : (pos nanovolt *ℤ ((ceil_div (entry_of c.high i) (pos nanovolt) -ℤ floor_div (entry_of c.low i) (pos nanovolt)) -ℤ pos 2)) <ℤ w i =
        omega (arith, ints, outward_width (pos nanovolt) (entry_of c.low i) (entry_of c.high i) (omega (arith, ints)), gap w rising i l) in
        subst (λ (z : ℤ). (pos nanovolt *ℤ ((to -ℤ z) -ℤ pos 2)) <ℤ w i) (sym is_from) (subst (λ (z : ℤ). (pos nanovolt *ℤ ((z -ℤ floor_div (entry_of c.low i) (pos nanovolt)) -ℤ pos 2)) <ℤ w i) (sym is_to) below)

  module _ (k : ℕ) (d : Resistor) (l : k < length c.net.resistors) (from to : ℤ) (is_from : from ≡ floor_div (least_current c.high c.low (get_or c.net.resistors k d)) (pos nanoampere)) (is_to : to ≡ ceil_div (greatest_current c.high c.low (get_or c.net.resistors k d)) (pos nanoampere)) where
    abbrev r : Resistor
    r = get_or c.net.resistors k d

    pub current_bounds : (q : ℕ) (p cs drawn : ℕ → ℤ) → IsSolution c.net q p cs drawn → LiesWithin nanoampere q (cs k) (from, to)
    current_bounds q p cs drawn sol =
        let between = currents_between c.net c.high c.low q p cs drawn wf kept.certificate.high_half.holds kept.certificate.low_half.holds sol k d l in
        let both = within_units nanoampere q (least_current c.high c.low r) (greatest_current c.high c.low r) (cs k) (omega arith) between.0 between.1 in
        subst (λ (z : ℤ). LiesWithin nanoampere q (cs k) (z, to)) (sym is_from) (subst (λ (z : ℤ). LiesWithin nanoampere q (cs k) (floor_div (least_current c.high c.low r) (pos nanoampere), z)) (sym is_to) both)

    pub current_gap : (w : ℕ → ℤ) → IsRising c.net w → (r.ohms *ℤ ((pos nanoampere *ℤ ((to -ℤ from) -ℤ pos 2)) -ℤ pos 2)) <ℤ (w r.a +ℤ w r.b)
    current_gap w rising =
        let of_r : IsResistorOf c.net.nodes r = wf.each_resistor k d l in
        let plain = current_width r.ohms (entry_of c.high r.a) (entry_of c.low r.a) (entry_of c.high r.b) (entry_of c.low r.b) (w r.a) (w r.b) of_r.resists (gap w rising r.a of_r.a_is_node) (gap w rising r.b of_r.b_is_node) in
        let below = printed_width r.ohms nanoampere (least_current c.high c.low r) (greatest_current c.high c.low r) (w r.a +ℤ w r.b) of_r.resists (omega arith) plain in
        subst (λ (z : ℤ). (r.ohms *ℤ ((pos nanoampere *ℤ ((to -ℤ z) -ℤ pos 2)) -ℤ pos 2)) <ℤ (w r.a +ℤ w r.b)) (sym is_from) (subst (λ (z : ℤ). (r.ohms *ℤ ((pos nanoampere *ℤ ((z -ℤ floor_div (least_current c.high c.low r) (pos nanoampere)) -ℤ pos 2)) -ℤ pos 2)) <ℤ (w r.a +ℤ w r.b)) (sym is_to) below)

-- What is told of two lists and a resistor is told of those that they are.
pub told_of : (f : List ℤ → List ℤ → Resistor → ℤ) (hs hs' ls ls' : List ℤ) (rs rs' : List Resistor) (k : ℕ) (d d' : Resistor) → hs ≡ hs' → ls ≡ ls' → rs ≡ rs' → k < length rs' → f hs ls (get_or rs k d) ≡ f hs' ls' (get_or rs' k d')
told_of f hs hs' ls ls' rs rs' k d d' a b e l =
    ap (λ (x : List ℤ). f x ls (get_or rs k d)) a
    ∙ ap (λ (x : List ℤ). f hs' x (get_or rs k d)) b
    ∙ ap (λ (x : List Resistor). f hs' ls' (get_or x k d)) e
    ∙ ap (λ (x : Resistor). f hs' ls' x) (get_or_default rs' k d d' l)

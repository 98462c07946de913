-- One node is raised, or lowered; and steps follow one another.
use Rattle.std.proofs.Common.{◌≡◌, ℕ, ◌+◌, ◌*◌, ◌<◌, inl, inr, ℤ, pos, neg_ℤ, ◌+ℤ◌, ◌-ℤ◌, ◌≤ℤ◌, ◌<ℤ◌, arith, refl, sym, ap, ◌∙◌, subst, List, length, set, All, None, unsigned_abs, sum_by}
use Rattle.std.proofs.lemmas.Int.{ints}
use Rattle.std.proofs.lemmas.Bool.{cases_eq}
use Rattle.std.proofs.lemmas.List.{get_or-set_same, get_or-set_other, length-set}
use Rattle.std.proofs.lemmas.List.Sums.{sum_by-set}
use Rattle.grid_net.specs.Network.{Network, IsNetwork, outflow, pad_at, entry_of, degree}
use Rattle.grid_net.specs.Limits.{IsInLimit}
use Rattle.grid_net.specs.Certificate.{value_limit}
use Rattle.std.proofs.lemmas.List.{get_or_default}
use Rattle.bound_make.specs.inside.Raising.{HighHoldsBy}
use Rattle.bound_make.specs.inside.Moving.{held_rule, held_sum, IsTrim, IsRaising, IsRaisable, IsLowering, IsLowerable, rise_room, fall_room, IsMovedAt}
use Rattle.bound_make.proofs.Raised.{raise_below, lower_keeps, pad_is_other}
use Rattle.bound_make.proofs.Steps.{held_is}

-- A list with one entry changed.
moved_is : (n : ℕ) (x : List ℤ) (node : ℕ) (by : ℤ) → length x ≡ n → node < n → IsMovedAt n node by (entry_of x) (entry_of (set x node (entry_of x node +ℤ by)))
moved_is n x node by size l = record {
  moved = get_or-set_same x node (entry_of x node +ℤ by) (pos 0) (omega (arith, size, l));
  others = λ j m ne. get_or-set_other x node j (entry_of x node +ℤ by) (pos 0) ne;
}

-- A bound on each entry, at any default.
pub each_entry : (P : ℤ → Type 0) (n : ℕ) (x : List ℤ) → length x ≡ n → ((i : ℕ) → i < n → P (entry_of x i)) → All P x
each_entry P n x size h = λ i d l. subst P (get_or_default x i (pos 0) d l) (h i (omega (arith, size, l)))

room_falls : (f : ℤ → ℕ) (x : List ℤ) (i : ℕ) (v : ℤ) → i < length x → f v < f (entry_of x i) → sum_by f (set x i v) < sum_by f x
room_falls f x i v l less = let e = sum_by-set f x i v (pos 0) l in omega (arith, e, less)

-- A node that is no pad and may be raised by a step, since its sum is below 1, and stays so up to the step.
pub record RisesBy (net : Network) (x : List ℤ) (node : ℕ) (step : ℤ) : Type 0 where
  pub can : IsRaisable net x
  pub node_in : node < net.nodes
  pub none : pad_at net node ≡ None
  pub some : pos 1 ≤ℤ step
  pub short : held_sum net x node <ℤ pos 1
  pub room : (e : ℤ) (y : ℕ → ℤ) → pos 0 ≤ℤ e → e <ℤ step → IsMovedAt net.nodes node e (entry_of x) y → outflow held_rule net.resistors y node <ℤ (outflow held_rule net.resistors (entry_of x) node +ℤ (pos 1 -ℤ held_sum net x node))

-- A node that is no pad and may be lowered by a step, since its sum passes 1 by too much, and stays at least 1.
pub record FallsBy (net : Network) (x : List ℤ) (node : ℕ) (step : ℤ) : Type 0 where
  pub can : IsLowerable net x
  pub node_in : node < net.nodes
  pub none : pad_at net node ≡ None
  pub some : pos 1 ≤ℤ step
  pub loose : pos (64 * (degree net.resistors node + 1)) <ℤ (held_sum net x node -ℤ pos 1)
  pub room : (y : ℕ → ℤ) → IsMovedAt net.nodes node (neg_ℤ step) (entry_of x) y → (outflow held_rule net.resistors (entry_of x) node -ℤ (held_sum net x node -ℤ pos 1)) ≤ℤ outflow held_rule net.resistors y node

module _ (net : Network) (wf : IsNetwork net) where
  -- ---- raising
  pub raisable_values : (x : List ℤ) → IsRaisable net x → All (IsInLimit value_limit) x
  raisable_values x can = each_entry (IsInLimit value_limit) net.nodes x can.size (λ i l. (can.least i l, omega (arith, ints, can.roof.2 i l, can.roof.3 i l)))

  pub raising_none : (x : List ℤ) → IsRaising net x x
  raising_none x = record { size = refl; pads = λ i v l e. refl; above = λ i l. omega (arith, ints); below = λ z holds over i l. over i l }

  pub raising_then : (x y z : List ℤ) → IsRaising net x y → IsRaising net y z → IsRaising net x z
  raising_then x y z a b = record {
    size = b.size ∙ a.size;
    pads = λ i v l e. b.pads i v l e ∙ a.pads i v l e;
    above = λ i l. omega (arith, ints, a.above i l, b.above i l);
    below = λ h holds over i l. b.below h holds (a.below h holds over) i l;
  }

  pub raising_can : (x y : List ℤ) → IsRaisable net x → IsRaising net x y → IsRaisable net y
  raising_can x y can a = record {
    size = a.size ∙ can.size;
    least = λ i l. omega (arith, ints, can.least i l, a.above i l);
    roof = (can.roof.0, can.roof.1, a.below can.roof.0 can.roof.1 can.roof.2, can.roof.3);
  }

  module _ (x : List ℤ) (node : ℕ) (step : ℤ) (by : RisesBy net x node step) where
    abbrev raised : List ℤ
    raised = set x node (entry_of x node +ℤ step)

    abbrev almost : ℕ → ℤ
    almost = entry_of (set x node (entry_of x node +ℤ (step -ℤ pos 1)))

    to_raised : IsMovedAt net.nodes node step (entry_of x) (entry_of raised)
    to_raised = moved_is net.nodes x node step by.can.size by.node_in

    to_almost : IsMovedAt net.nodes node (step -ℤ pos 1) (entry_of x) almost
    to_almost = moved_is net.nodes x node (step -ℤ pos 1) by.can.size by.node_in

    -- Raised by all but one unit, the node's sum is still below 1, so one unit more is below each list that satisfies the half.
    under : (z : ℕ → ℤ) → HighHoldsBy held_rule net z → ((i : ℕ) → i < net.nodes → entry_of x i ≤ℤ z i) → (entry_of x node +ℤ step) ≤ℤ z node
    under z holds over =
        let less = by.room (step -ℤ pos 1) almost (omega (arith, ints, by.some)) (omega (arith, ints)) to_almost in
        let h = raise_below held_rule held_is net wf almost z node holds (λ j m ne. omega (arith, ints, to_almost.others j m ne, over j m)) by.node_in by.none (omega (arith, ints, less)) in
        omega (arith, ints, h, to_almost.moved)

    pub raised_is : IsRaising net x raised
    raised_is = record {
      size = length-set x node (entry_of x node +ℤ step);
      pads = λ i v m e. to_raised.others i m (pad_is_other held_rule held_is net wf node i v by.none e);
      above = λ i m. elim (cases_eq i node) [
        | inl e ↦ omega (arith, ints, to_raised.moved, ap (entry_of raised) e, ap (entry_of x) e, by.some)
        | inr ne ↦ omega (arith, ints, to_raised.others i m ne)
      ];
      below = λ z holds over i m. elim (cases_eq i node) [
        | inl e ↦ omega (arith, ints, to_raised.moved, ap (entry_of raised) e, ap z e, under z holds over)
        | inr ne ↦ omega (arith, ints, to_raised.others i m ne, over i m)
      ];
    }

    pub raised_room : rise_room raised < rise_room x
    raised_room =
        let top = under by.can.roof.0 by.can.roof.1 by.can.roof.2 in
        let most = by.can.roof.3 node by.node_in in
        room_falls (λ v. unsigned_abs (pos value_limit -ℤ v)) x node (entry_of x node +ℤ step) (omega (arith, by.can.size, by.node_in)) (omega (arith, ints, top, most, by.some))

  -- ---- lowering
  pub lowerable_values : (x : List ℤ) → IsLowerable net x → All (IsInLimit value_limit) x
  lowerable_values x can = each_entry (IsInLimit value_limit) net.nodes x can.size (λ i l. (can.floor (entry_of x) can.holds i l, can.most i l))

  pub lowering_none : (x : List ℤ) → IsLowerable net x → IsLowering net x x
  lowering_none x can = record { size = refl; pads = λ i v l e. refl; below = λ i l. omega (arith, ints); holds = can.holds; unmoved = λ trim. refl }

  pub lowering_then : (x y z : List ℤ) → IsLowering net x y → IsLowering net y z → IsLowering net x z
  lowering_then x y z a b = record {
    size = b.size ∙ a.size;
    pads = λ i v l e. b.pads i v l e ∙ a.pads i v l e;
    below = λ i l. omega (arith, ints, a.below i l, b.below i l);
    holds = b.holds;
    unmoved = λ trim. (let same = a.unmoved trim in b.unmoved (λ i l. subst (λ (w : List ℤ). IsTrim net w i) (sym same) (trim i l)) ∙ same);
  }

  pub lowering_can : (x y : List ℤ) → IsLowerable net x → IsLowering net x y → IsLowerable net y
  lowering_can x y can a = record {
    size = a.size ∙ can.size;
    most = λ i l. omega (arith, ints, can.most i l, a.below i l);
    holds = a.holds;
    floor = can.floor;
  }

  module _ (x : List ℤ) (node : ℕ) (step : ℤ) (by : FallsBy net x node step) where
    abbrev lowered : List ℤ
    lowered = set x node (entry_of x node -ℤ step)

    to_lowered : IsMovedAt net.nodes node (neg_ℤ step) (entry_of x) (entry_of lowered)
    to_lowered = record {
      moved = omega (arith, ints, get_or-set_same x node (entry_of x node -ℤ step) (pos 0) (omega (arith, by.can.size, by.node_in)));
      others = λ j m ne. get_or-set_other x node j (entry_of x node -ℤ step) (pos 0) ne;
    }

    lowered_holds : HighHoldsBy held_rule net (entry_of lowered)
    lowered_holds =
        let least = by.room (entry_of lowered) to_lowered in
        lower_keeps held_rule held_is net wf (entry_of x) (entry_of lowered) node by.can.holds by.none to_lowered.others (omega (arith, ints, to_lowered.moved, by.some)) (omega (arith, ints, least))

    pub lowered_is : IsLowering net x lowered
    lowered_is = record {
      size = length-set x node (entry_of x node -ℤ step);
      pads = λ i v m e. to_lowered.others i m (pad_is_other held_rule held_is net wf node i v by.none e);
      below = λ i m. elim (cases_eq i node) [
        | inl e ↦ omega (arith, ints, to_lowered.moved, ap (entry_of lowered) e, ap (entry_of x) e, by.some)
        | inr ne ↦ omega (arith, ints, to_lowered.others i m ne)
      ];
      holds = lowered_holds;
      unmoved = λ trim. absurd (omega (arith, ints, trim node by.node_in by.none, by.loose));
    }

    pub lowered_room : fall_room lowered < fall_room x
    lowered_room =
        let least = by.can.floor (entry_of lowered) lowered_holds node by.node_in in
        room_falls (λ v. unsigned_abs (v +ℤ pos value_limit)) x node (entry_of x node -ℤ step) (omega (arith, by.can.size, by.node_in)) (omega (arith, ints, least, to_lowered.moved, by.some))

-- How far a node may move: from the flows over its resistors to its sum.
use Rattle.std.proofs.Common.{◌≡◌, ℕ, suc, ◌+◌, ◌*◌, ◌^◌, ◌<◌, ◌≤◌, ℤ, pos, neg_ℤ, ◌+ℤ◌, ◌-ℤ◌, ◌*ℤ◌, ◌≤ℤ◌, ◌<ℤ◌, ◌⊎◌, inl, inr, arith, sym, ap, ◌∙◌, subst, List, [], ◌∷◌, length, get_or, All, suc-le-suc}
use Rattle.std.proofs.lemmas.Int.{ints, clamps}
use Rattle.std.proofs.lemmas.Bool.{cases_eq}
use Rattle.std.proofs.Math.IntN.{*ℤ_comm}
use Rattle.grid_net.specs.declared.part.Resistor.{Resistor}
use Rattle.grid_net.specs.Network.{IsResistorOf, total, outflow, entry_of, places_at, other_end, degree}
use Rattle.grid_net.specs.inside.Flows.{flow_over}
use Rattle.grid_net.specs.Certificate.{flow_limit, value_limit}
use Rattle.std.specs.Int.{int_max, int_min}
use Rattle.rounding.specs.Rounding.{floor_div, ceil_div}
use Rattle.rounding.specs.Laws.{times_sum, times_next, times_one, times_le, times_lt_out, floor_is, ceiling_is}
use Rattle.grid_net.specs.Laws.Flows.{around_is_outflow, places_are_places, other_is_node, degree_from, degree_at_most}
use Rattle.bound_make.specs.inside.Raising.{IsFlowRule}
use Rattle.bound_make.specs.inside.Moving.{held_rule, GrowsLess, FallsAtMost, IsMovedAt}
use Rattle.grid_net.specs.inside.Flows.{no_resistor}
use Rattle.bound_make.proofs.Flows.{held_is_rule}

pub held_is : IsFlowRule held_rule
held_is = held_is_rule (pos flow_limit) (omega (arith, ints))

pub held_nothing : (r : ℤ) → pos 1 ≤ℤ r → held_rule (pos 0) r ≡ pos 0
held_nothing = held_is.none

times_nothing : (c : ℤ) → c *ℤ pos 0 ≡ pos 0
times_nothing c = let a = times_sum c (pos 0) (pos 0) in omega (arith, ints, a)

-- A sum of terms, each greater by at most c.
total_more_by : (f g : ℕ → ℤ) (c : ℤ) (ks : List ℕ) → ((k : ℕ) → k < length ks → (g (get_or ks k 0) -ℤ f (get_or ks k 0)) ≤ℤ c) → total g ks ≤ℤ (total f ks +ℤ c *ℤ pos (length ks))
total_more_by f g c [] h = omega (arith, ints, times_nothing c)
total_more_by f g c (k ∷ ks) h =
    let first = h 0 (omega arith) in
    let rest = total_more_by f g c ks (λ i l. h (suc i) (suc-le-suc l)) in
    let next = times_next c (pos (length ks)) in
    let size : pos (suc (length ks)) ≡ pos (length ks) +ℤ pos 1 = omega (arith, ints) in
    omega (arith, ints, first, rest, next, ap (λ n. c *ℤ n) size)

-- How many places there are around a node: its degree, which is small where there are few resistors.
pub around_count : (rs : List Resistor) (node : ℕ) (around : List ℕ) → around ≡ places_at rs node → length rs ≤ 4 * 10 ^ 6 → (length around ≡ degree rs node) × (length around ≤ 4 * 10 ^ 6)
around_count rs node around is few =
    let count : length around ≡ degree rs node = ap length is ∙ sym (degree_from 0 rs node) in
    let most = degree_at_most rs node in
    (count, omega (arith, count, most, few))

module _ (n : ℕ) (rs : List Resistor) (of_rs : All (IsResistorOf n) rs) (x : List ℤ) (node : ℕ) (around : List ℕ) (around_is : around ≡ places_at rs node) where
  pub is_place : (k : ℕ) → k < length around → get_or around k 0 < length rs
  is_place k l = (subst (λ (ks : List ℕ). All (λ p. p < length rs) ks) (sym around_is) (places_are_places rs node)) k 0 l

  -- The difference over the resistor at a place moves with the node, but over a resistor from the node to itself.
  moved_flow : (y : ℕ → ℤ) (e : ℤ) (place : ℕ) → place < length rs → IsMovedAt n node e (entry_of x) y
      → let r = get_or rs place no_resistor in (y node -ℤ y (other_end r node) ≡ (entry_of x node -ℤ entry_of x (other_end r node)) +ℤ e) ⊎ (y node -ℤ y (other_end r node) ≡ entry_of x node -ℤ entry_of x (other_end r node))
  moved_flow y e place l move =
      let r = get_or rs place no_resistor in
      let there = other_is_node n r node (of_rs place no_resistor l) in
      elim (cases_eq (other_end r node) node) [
        | inl same ↦ inr (omega (arith, ints, ap y same, ap (entry_of x) same))
        | inr ne ↦ inl (omega (arith, ints, move.moved, move.others (other_end r node) there ne))
      ]

  outflow_is : (y : ℕ → ℤ) → outflow held_rule rs y node ≡ total (flow_over held_rule rs y node no_resistor) around
  outflow_is y = around_is_outflow held_rule held_nothing n rs of_rs y node no_resistor ∙ ap (total (flow_over held_rule rs y node no_resistor)) (sym around_is)

  grows_at : (units step : ℤ) → pos 1 ≤ℤ units → (y : ℕ → ℤ) (e : ℤ) → pos 0 ≤ℤ e → e <ℤ step → IsMovedAt n node e (entry_of x) y → (place : ℕ) → place < length rs → GrowsLess rs x node units step place
      → (flow_over held_rule rs y node no_resistor place -ℤ flow_over held_rule rs (entry_of x) node no_resistor place) ≤ℤ (units -ℤ pos 1)
  grows_at units step some y e least less move place l room =
      let r = get_or rs place no_resistor in
      elim (moved_flow y e place l move) [
        | inl same ↦ (let a = room e least less in let b = ap (λ z. held_rule z r.ohms) same in omega (arith, ints, a, b))
        | inr same ↦ (let b = ap (λ z. held_rule z r.ohms) same in omega (arith, ints, b, some))
      ]

  falls_at : (units step : ℤ) → pos 1 ≤ℤ units → (y : ℕ → ℤ) → pos 0 ≤ℤ step → IsMovedAt n node (neg_ℤ step) (entry_of x) y → (place : ℕ) → place < length rs → FallsAtMost rs x node units step place
      → (flow_over held_rule rs (entry_of x) node no_resistor place -ℤ flow_over held_rule rs y node no_resistor place) ≤ℤ units
  falls_at units step some y least move place l room =
      let r = get_or rs place no_resistor in
      elim (moved_flow y (neg_ℤ step) place l move) [
        | inl same ↦ (let a = room step least (omega (arith, ints)) in
            let d : y node -ℤ y (other_end r node) ≡ (entry_of x node -ℤ entry_of x (other_end r node)) -ℤ step = omega (arith, ints, same) in
            let b = ap (λ z. held_rule z r.ohms) d in omega (arith, ints, a, b))
        | inr same ↦ (let b = ap (λ z. held_rule z r.ohms) same in omega (arith, ints, b, some))
      ]

  -- Raised by less than the step, the node's flows are greater by at most (units - 1) for each resistor.
  pub grown : (units step : ℤ) → pos 1 ≤ℤ units → ((k : ℕ) → k < length around → GrowsLess rs x node units step (get_or around k 0)) → (y : ℕ → ℤ) (e : ℤ) → pos 0 ≤ℤ e → e <ℤ step → IsMovedAt n node e (entry_of x) y
      → outflow held_rule rs y node ≤ℤ (outflow held_rule rs (entry_of x) node +ℤ pos (length around) *ℤ (units -ℤ pos 1))
  grown units step some room y e least less move =
      let a = total_more_by (flow_over held_rule rs (entry_of x) node no_resistor) (flow_over held_rule rs y node no_resistor) (units -ℤ pos 1) around (λ k l. grows_at units step some y e least less move (get_or around k 0) (is_place k l) (room k l)) in
      omega (arith, ints, a, outflow_is y, outflow_is (entry_of x), *ℤ_comm (units -ℤ pos 1) (pos (length around)))

  -- Lowered by the step, they are smaller by at most so many units for each resistor.
  pub fallen : (units step : ℤ) → pos 1 ≤ℤ units → pos 0 ≤ℤ step → ((k : ℕ) → k < length around → FallsAtMost rs x node units step (get_or around k 0)) → (y : ℕ → ℤ) → IsMovedAt n node (neg_ℤ step) (entry_of x) y
      → outflow held_rule rs (entry_of x) node ≤ℤ (outflow held_rule rs y node +ℤ pos (length around) *ℤ units)
  fallen units step some least room y move =
      let a = total_more_by (flow_over held_rule rs y node no_resistor) (flow_over held_rule rs (entry_of x) node no_resistor) units around (λ k l. falls_at units step some y least move (get_or around k 0) (is_place k l) (room k l)) in
      omega (arith, ints, a, outflow_is y, outflow_is (entry_of x), *ℤ_comm units (pos (length around)))

-- What is missing is more than one unit less than the share of each resistor, all resistors together.
pub shares_up : (n : ℕ) (count missing units : ℤ) → count ≡ int_max (pos n) (pos 1) → units ≡ ceil_div missing count → pos 1 ≤ℤ missing → (pos 1 ≤ℤ units) × ((pos n *ℤ (units -ℤ pos 1)) <ℤ missing)
shares_up n count missing units m u some =
    let least : pos 1 ≤ℤ count = omega (arith, ints, clamps, m) in
    let q = ceiling_is missing count least in
    let above = times_lt_out count (pos 0) (ceil_div missing count) least (omega (arith, ints, q.reaches, times_nothing count, some)) in
    let units_some : pos 1 ≤ℤ units = omega (arith, ints, above, u) in
    let same : count *ℤ (units -ℤ pos 1) ≡ count *ℤ (ceil_div missing count -ℤ pos 1) = ap (λ z. count *ℤ (z -ℤ pos 1)) u in
    let wide : ((units -ℤ pos 1) *ℤ pos n) ≤ℤ ((units -ℤ pos 1) *ℤ count) = times_le (units -ℤ pos 1) (pos n) count (omega (arith, ints, units_some)) (omega (arith, ints, clamps, m)) in
    (units_some, omega (arith, ints, q.last_is_below, same, wide, *ℤ_comm (units -ℤ pos 1) (pos n), *ℤ_comm (units -ℤ pos 1) count))

-- What is spare is at least the share of each resistor, all resistors together.
pub shares_down : (n : ℕ) (count spare units : ℤ) → count ≡ int_max (pos n) (pos 1) → units ≡ floor_div spare count → pos (64 * (n + 1)) <ℤ spare → (pos 1 ≤ℤ units) × ((pos n *ℤ units) ≤ℤ spare)
shares_down n count spare units m u some =
    let least : pos 1 ≤ℤ count = omega (arith, ints, clamps, m) in
    let q = floor_is spare count least in
    let reach : count ≤ℤ spare = omega (arith, ints, clamps, m, some) in
    let above = times_lt_out count (pos 1) (floor_div spare count +ℤ pos 1) least (omega (arith, ints, q.next_is_above, times_one count, reach)) in
    let units_some : pos 1 ≤ℤ units = omega (arith, ints, above, u) in
    let same : count *ℤ units ≡ count *ℤ floor_div spare count = ap (λ z. count *ℤ z) u in
    let wide : (units *ℤ pos n) ≤ℤ (units *ℤ count) = times_le units (pos n) count (omega (arith, ints, units_some)) (omega (arith, ints, clamps, m)) in
    (units_some, omega (arith, ints, q.reached, same, wide, *ℤ_comm units (pos n), *ℤ_comm units count))

-- The least of several rooms, of which each place before an index keeps one, is the room of each.
pub record IsLeast (Keeps : ℤ → ℕ → Type 0) (around : List ℕ) (index : ℕ) (least : ℤ) : Type 0 where
  pub positive : pos 1 ≤ℤ least
  pub at_most : least ≤ℤ pos value_limit
  pub room : (k : ℕ) → k < index → Keeps least (get_or around k 0)

pub least_step : (Keeps : ℤ → ℕ → Type 0) → ((a b : ℤ) (place : ℕ) → a ≤ℤ b → Keeps b place → Keeps a place) → (around : List ℕ) (index : ℕ) (old room new : ℤ) → IsLeast Keeps around index old → pos 1 ≤ℤ room → Keeps room (get_or around index 0) → new ≡ int_min old room → IsLeast Keeps around (index + 1) new
least_step Keeps less around index old room new so_far some here is = record {
  positive = omega (arith, ints, clamps, is, some, so_far.positive);
  at_most = omega (arith, ints, clamps, is, so_far.at_most);
  room = λ k l. elim (cases_eq k index) [
    | inl same ↦ subst (λ (n : ℕ). Keeps new (get_or around n 0)) (sym same) (less new room (get_or around index 0) (omega (arith, ints, clamps, is)) here)
    | inr ne ↦ less new old (get_or around k 0) (omega (arith, ints, clamps, is)) (so_far.room k (omega arith))
  ];
}

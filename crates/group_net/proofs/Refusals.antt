-- Where every limit is kept, pads that differ are all that refuses the lists of a network.
use Rattle.std.proofs.Common.{◌≡◌, ℕ, ◌<◌, ◌≤◌, inl, inr, ℤ, pos, neg_ℤ, ◌≤ℤ◌, arith, refl, sym, ap, ◌∙◌, subst, List, [], ◌∷◌, length, get_or, map, All, Option, Some, None, Bool, true, false, cond, ◌&&◌, ◌||◌, leb, ltb, if◌then◌else◌}
use Rattle.std.proofs.lemmas.Int.{ints}
use Rattle.std.proofs.lemmas.Bool.Decides.{nat_tests}
use Rattle.std.proofs.lemmas.List.Elements.{All-tail, All-head, All-map}
use Rattle.std.proofs.lemmas.List.Sums.{position_or_len_is}
use Rattle.std.specs.Option.{option_map}
use Rattle.std.specs.Ordering.{int_eq}
use Rattle.std.specs.List.{position, position_or_len}
use Rattle.grid_net.specs.declared.part.Resistor.{Resistor}
use Rattle.grid_net.specs.declared.part.Pad.{Pad}
use Rattle.grid_net.specs.declared.part.Load.{Load}
use Rattle.grid_net.specs.declared.error.NetError.{NetError}
use Rattle.grid_net.specs.declared.error.NetError.TheVariants.{BadEnd, Range, PadConflict, Want}
use lib.Signed.{le_z}
use Rattle.grid_net.specs.declared.error.Quantity.{Quantity}
use Rattle.grid_net.specs.declared.error.Quantity.TheVariants.{Nodes, Resistors, Resistance, Voltage, Loads}
use Rattle.grid_net.specs.Adding.{given_load}
use Rattle.grid_net.specs.Limits.{most_nodes, most_resistors, greatest_resistance, greatest_voltage, greatest_load}
use Rattle.grid_net.specs.Laws.Search.{none_both}
use Rattle.grid_net.specs.Search.{or_else, first_of}
use Rattle.grid_net.specs.Network.{Network, first_pad}
use Rattle.grid_net.specs.Building.{BuildFails, KeepsLimits, conflict_with, first_conflict, first_net_refusal, first_bad_end, first_beyond_limit, first_unfit, unless_at_most, resistance_fits, voltage_fits}
use Rattle.node_groups.specs.Groups.{AreGroups}
use Rattle.group_net.specs.declared.merge.GroupError.{GroupError}
use Rattle.group_net.specs.Merging.{grouped_pad}
use Rattle.group_net.specs.Refusal.{IsRefusal}
use Rattle.group_net.specs.inside.Told.{IsLeft, AsTold}

no_some : {X : Type 0} (x : X) → None ≡ Some x → ⊥
no_some {X} x e = let f : ◌≡◌ {A = Option X} None (Some x) = e in cc

-- A conflict of pads stands at the node of a pad.
conflict_at : (n : ℕ) (p : Pad) (o : Option ℤ) (e : NetError) → p.node < n → conflict_with p o ≡ Some e → IsLeft e n
conflict_at n p None e l told = absurd (no_some e told)
conflict_at n p (Some first) e l told = by_test (int_eq first p.volts) told
  where
    by_test : (b : Bool) → cond b None (Some (PadConflict p.node first p.volts)) ≡ Some e → IsLeft e n
    by_test true told = absurd (no_some e told)
    by_test false told =
        let same : PadConflict p.node first p.volts ≡ e = cc in subst (λ (x : NetError). IsLeft x n) same l

conflict_left : (n : ℕ) (whole ps : List Pad) (e : NetError) → All (λ p. p.node < n) ps
    → first_of (λ p. conflict_with p (first_pad whole p.node)) ps ≡ Some e → IsLeft e n
conflict_left n whole [] e all told = absurd (no_some e told)
conflict_left n whole (p ∷ ps) e all told =
    by_answer (conflict_with p (first_pad whole p.node)) refl told
    (conflict_left n whole ps e (All-tail (λ p. p.node < n) p ps all))
  where
    by_answer : (o : Option NetError) → conflict_with p (first_pad whole p.node) ≡ o
        → or_else o (first_of (λ p. conflict_with p (first_pad whole p.node)) ps) ≡ Some e
        → (first_of (λ p. conflict_with p (first_pad whole p.node)) ps ≡ Some e → IsLeft e n) → IsLeft e n
    by_answer None is told rest = rest told
    by_answer (Some x) is told rest =
        conflict_at n p (first_pad whole p.node) e (All-head (λ p. p.node < n) p ps all) (is ∙ told)

-- ---- no other refusal
at_end : (n m : ℕ) → n ≡ m → ◌≡◌ {A = Option ℕ} (cond (ltb n m) (Some n) None) None
at_end n m e = ap (λ b. cond b (Some n) None) (not_below n m e)
  where
    not_below : (n m : ℕ) → n ≡ m → ltb n m ≡ false
    not_below n m e = grind (arith, nat_tests)

no_place : {X : Type 0} (p : X → Bool) (xs : List X) → All (λ x. p x ≡ false) xs → position p xs ≡ None
no_place p xs all = at_end (position_or_len p xs) (length xs) (none_passes p xs all)
  where
    none_passes : {X : Type 0} (p : X → Bool) (xs : List X) → All (λ x. p x ≡ false) xs → position_or_len p xs ≡ length xs
    none_passes p [] all = refl
    none_passes p (x ∷ xs) all =
        position_or_len_is p (x ∷ xs) (length (x ∷ xs)) x (omega arith) (λ k l. all k x l) (λ l. absurd (omega arith))

not_at_most : (a b : ℕ) → b < a → leb a b ≡ false
not_at_most a b h = grind (arith, nat_tests)

at_most : (a b : ℕ) → a ≤ b → leb a b ≡ true
at_most a b h = grind (arith, nat_tests)

within : (limit n : ℕ) (q : Quantity) → n ≤ limit → unless_at_most limit q n ≡ None
within limit n q h = ap (λ b. cond b None (Some (Range q 0 (pos n)))) (at_most n limit h)

between : (a z b : ℤ) → a ≤ℤ z → z ≤ℤ b → (le_z a z && le_z z b) ≡ true
between a z b h k = ap (λ t. t && le_z z b) (le_in a z h) ∙ le_in z b k
  where
    le_in : (x y : ℤ) → x ≤ℤ y → le_z x y ≡ true
    le_in x y h = sym (omega (arith, ints))

all_fit : {X : Type 0} (q : Quantity) (fits : ℤ → Bool) (f : X → ℤ) (xs : List X) → All (λ x. fits (f x) ≡ true) xs
    → first_unfit q fits (map f xs) ≡ None
all_fit q fits f xs all =
    ap (option_map (λ at. Range q at (get_or (map f xs) at (pos 0))))
    (no_place (λ z. if fits z then false else true) (map f xs)
    (All-map (λ z. (if fits z then false else true) ≡ false) f xs (λ k d l. ap (λ b. cond b false true) (all k d l))))

module _ (n : ℕ) (rs : List Resistor) (ps : List Pad) (ls : List Load) (keeps : KeepsLimits n rs ps ls) where
  pub only_conflicts : first_net_refusal n rs ps ls ≡ first_conflict ps
  only_conflicts =
      ap (λ o. or_else (option_map (λ at. BadEnd at) o) (or_else (first_beyond_limit n rs ps ls) (first_conflict ps))) ends
      ∙ ap (λ o. or_else o (first_conflict ps)) limits
    where
      ends : first_bad_end n rs ps ls ≡ None
      ends = none_both (position (λ r. leb n r.a || leb n r.b) rs)
          (or_else (position (λ p. leb n p.node) ps) (position (λ l. leb n l.node) ls))
          (no_place (λ r. leb n r.a || leb n r.b) rs (λ k d l. let b = keeps.ends_are_nodes k d l in
          ap (λ t. t || leb n (get_or rs k d).b) (not_at_most n (get_or rs k d).a b.0)
          ∙ not_at_most n (get_or rs k d).b b.1))
          (none_both (position (λ p. leb n p.node) ps) (position (λ l. leb n l.node) ls)
          (no_place (λ p. leb n p.node) ps (λ k d l. not_at_most n (get_or ps k d).node (keeps.pads_are_nodes k d l)))
          (no_place (λ l. leb n l.node) ls (λ k d l. not_at_most n (get_or ls k d).node (keeps.loads_are_nodes k d l))))

      limits : first_beyond_limit n rs ps ls ≡ None
      limits = none_both _ _ (within most_nodes n Nodes keeps.few_nodes)
          (none_both _ _ (within most_resistors (length rs) Resistors keeps.few_resistors)
          (none_both _ _ (all_fit Resistance resistance_fits (λ r. r.ohms) rs
          (λ k d l. let h = keeps.resistances k d l in
          between (pos 1) (get_or rs k d).ohms (pos greatest_resistance) h.0 h.1))
          (none_both _ _ (all_fit Voltage voltage_fits (λ p. p.volts) ps
          (λ k d l. let h = keeps.voltages k d l in
          between (neg_ℤ (pos greatest_voltage)) (get_or ps k d).volts (pos greatest_voltage) h.0 h.1))
          (within greatest_load (given_load ls) Loads keeps.sum_of_loads))))

  pub what_is_left : (e : NetError) → BuildFails n rs ps ls e → IsLeft e n
  what_is_left e fails = elim fails [
    | inl told ↦ conflict_left n ps ps e keeps.pads_are_nodes (sym only_conflicts ∙ told)
    | inr want ↦ subst (λ (x : NetError). IsLeft x n) (sym want.0) tt
  ]

-- ---- a conflict as it is told
pub refusal_told : (net : Network) (shorts : List (ℕ × ℕ)) (group firsts : List ℕ) (rs : List Resistor) (ls : List Load)
    (e : NetError) (told : GroupError) → AreGroups net.nodes shorts group firsts
    → KeepsLimits (length firsts) rs (map (grouped_pad group) net.pads) ls
    → BuildFails (length firsts) rs (map (grouped_pad group) net.pads) ls e → AsTold e firsts told
    → IsRefusal net shorts told
refusal_told net shorts group firsts rs ls (PadConflict number first second) told h keeps fails as_told =
    subst (IsRefusal net shorts) (sym as_told) (record {
      group = group;
      firsts = firsts;
      groups = h;
      number = number;
      is_group = what_is_left (length firsts) rs (map (grouped_pad group) net.pads) ls keeps
          (PadConflict number first second) fails;
      conflict = elim fails [
        | inl is ↦ sym (only_conflicts (length firsts) rs (map (grouped_pad group) net.pads) ls keeps) ∙ is
        | inr want ↦ absurd (let u : PadConflict number first second ≡ Want = want.0 in cc)
      ];
      first_node = refl;
    })
refusal_told net shorts group firsts rs ls Want told h keeps fails as_told = subst (IsRefusal net shorts) (sym as_told) tt
refusal_told net shorts group firsts rs ls (BadEnd at) told h keeps fails as_told = absurd as_told
refusal_told net shorts group firsts rs ls (Range quantity at number) told h keeps fails as_told = absurd as_told

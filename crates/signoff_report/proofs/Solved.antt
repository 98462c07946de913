-- Every solution lies within the printed intervals, and does what the verdicts say.
use Rattle.std.proofs.Common.{◌≡◌, ℕ, ◌<◌, ◌≤◌, Bool, true, false, not, ◌&&◌, ◌||◌, if◌then◌else◌, ℤ, pos, neg_ℤ, ◌+ℤ◌, ◌-ℤ◌, ◌*ℤ◌, ◌≤ℤ◌, List, length, get_or, ◌==◌, Option, Some, None, refl, sym, ap, ◌∙◌, subst, arith, eq-eqb}
use Rattle.std.specs.Prelude.{unsigned_abs}
use Rattle.std.proofs.lemmas.Int.{ints}
use Rattle.std.proofs.lemmas.Bool.{and_parts, eqb-true}
use Rattle.rounding.specs.Rounding.{floor_div, ceil_div}
use Rattle.rounding.specs.Laws.{times_le, times_le_out, times_swap, times_difference, times_neg, floor_is, ceiling_is}
use Rattle.grid_net.specs.declared.part.Resistor.{Resistor}
use Rattle.grid_net.specs.Network.{Network, IsNetwork, IsResistorOf, entry_of}
use Rattle.grid_net.specs.Solution.{IsSolution}
use Rattle.bound_check.specs.Certified.{Certificate, least_current, greatest_current, nanovolt, nanoampere, LiesWithin}
use Rattle.em_rules.specs.declared.words.Verdict.{Verdict}
use Rattle.em_rules.specs.declared.words.Verdict.TheVariants.{Safe, Unsafe, Undecided, NoLimit}
use Rattle.em_rules.specs.Verdict.{LiesIn, KeepsLimit, EachKeeps, NoneKeeps, verdict_by_ends}
use Rattle.signoff_report.specs.declared.records.Limits.{Limits}
use Rattle.signoff_report.specs.Limits.{resistor_at}
use Rattle.signoff_report.specs.Shown.{shown_voltage, shown_current}
use Rattle.signoff_report.specs.Judged.{some_below, each_below, is_of_net, is_safe, is_unsafe, node_verdict, drop_verdict, branch_verdict}
use Rattle.signoff_report.specs.Solved.{KeepsDrop, EachNodeKeeps, SomeNodePasses}
use Rattle.signoff_report.proofs.Nets.{some_tells, each_tells}

-- What lies between two numbers lies between the multiples of a unit around them.
within_units : (unit q : ℕ) (low high z : ℤ) → 1 ≤ unit → (pos q *ℤ low) ≤ℤ z → z ≤ℤ (pos q *ℤ high) → LiesWithin unit q z (floor_div low (pos unit), ceil_div high (pos unit))
within_units unit q low high z some from to =
    let h : pos 1 ≤ℤ pos unit = omega (arith, ints) in (
      omega (arith, ints, from, times_le (pos q) (pos unit *ℤ floor_div low (pos unit)) low (omega (arith, ints)) (floor_is low (pos unit) h).reached),
      omega (arith, ints, to, times_le (pos q) high (pos unit *ℤ ceil_div high (pos unit)) (omega (arith, ints)) (ceiling_is high (pos unit) h).reaches),
    )

-- The current through a resistance whose first end is at least at q·x and whose second is at most at q·y.
current_above : (q : ℕ) (R P P' x y c : ℤ) → pos 1 ≤ℤ R → P -ℤ P' ≡ R *ℤ c → (pos q *ℤ x) ≤ℤ P → P' ≤ℤ (pos q *ℤ y) → (pos q *ℤ floor_div (x -ℤ y) R) ≤ℤ c
current_above q R P P' x y c some ohm from to =
    let f = floor_is (x -ℤ y) R some in
    let a = times_le (pos q) (R *ℤ floor_div (x -ℤ y) R) (x -ℤ y) (omega (arith, ints)) f.reached in
    let s = times_swap R q (floor_div (x -ℤ y) R) some in
    let d = times_difference (pos q) x y in
    times_le_out R (pos q *ℤ floor_div (x -ℤ y) R) c some (omega (arith, ints, a, s, d, ohm, from, to))

-- The same where the current is at most.
current_below : (q : ℕ) (R P P' x y c : ℤ) → pos 1 ≤ℤ R → P -ℤ P' ≡ R *ℤ c → P ≤ℤ (pos q *ℤ x) → (pos q *ℤ y) ≤ℤ P' → c ≤ℤ (pos q *ℤ ceil_div (x -ℤ y) R)
current_below q R P P' x y c some ohm to from =
    let back : P' -ℤ P ≡ R *ℤ neg_ℤ c = omega (arith, ints, ohm, times_neg R c) in
    let turn : y -ℤ x ≡ neg_ℤ (x -ℤ y) = omega (arith, ints) in
    let least = current_above q R P' P y x (neg_ℤ c) some back from to in
    let e = times_neg (pos q) (floor_div (neg_ℤ (x -ℤ y)) R) in
    let f = ap (λ z. pos q *ℤ floor_div z R) turn in
    omega (arith, ints, least, e, f)

-- The bounds that a certified network tells of every solution.
pub record AreBounds (c : Certificate) : Type 0 where
  pub high : (q : ℕ) (p cs drawn : ℕ → ℤ) → IsSolution c.net q p cs drawn → (i : ℕ) → i < c.net.nodes → p i ≤ℤ (pos q *ℤ entry_of c.high i)
  pub low : (q : ℕ) (p cs drawn : ℕ → ℤ) → IsSolution c.net q p cs drawn → (i : ℕ) → i < c.net.nodes → (pos q *ℤ entry_of c.low i) ≤ℤ p i
  pub well_formed : IsNetwork c.net

-- What the ends of an interval tell.
pub record EndsTell : Type 0 where
  pub safe : (low high : ℤ) (limit : ℕ) → verdict_by_ends low high (Some limit) ≡ Safe → EachKeeps low high limit
  pub not_safe : (low high : ℤ) (limit : ℕ) → verdict_by_ends low high (Some limit) ≡ Unsafe → NoneKeeps low high limit

-- A number within multiples of a unit, with the unit as the second factor.
in_units : (unit q : ℕ) (z low high : ℤ) → LiesWithin unit q z (low, high) → low *ℤ pos unit ≡ pos unit *ℤ low → high *ℤ pos unit ≡ pos unit *ℤ high → LiesIn (low *ℤ pos unit) (high *ℤ pos unit) q z
in_units unit q z low high within e f = record {
  from = omega (arith, ints, within.0, ap (λ x. pos q *ℤ x) e);
  to = omega (arith, ints, within.1, ap (λ x. pos q *ℤ x) f);
}

-- The same around a supply.
around : (unit q : ℕ) (z low high supply : ℤ) → LiesWithin unit q z (low, high) → low *ℤ pos unit ≡ pos unit *ℤ low → high *ℤ pos unit ≡ pos unit *ℤ high
    → LiesIn ((low *ℤ pos unit) -ℤ supply) ((high *ℤ pos unit) -ℤ supply) q (z -ℤ (pos q *ℤ supply))
around unit q z low high supply within e f = record {
  from = omega (arith, ints, within.0, ap (λ x. pos q *ℤ x) e, times_difference (pos q) (low *ℤ pos unit) supply);
  to = omega (arith, ints, within.1, ap (λ x. pos q *ℤ x) f, times_difference (pos q) (high *ℤ pos unit) supply);
}

nanoamperes : (x : ℤ) → x *ℤ pos nanoampere ≡ pos nanoampere *ℤ x
nanoamperes x = omega (arith, ints)

nanovolts : (x : ℤ) → x *ℤ pos nanovolt ≡ pos nanovolt *ℤ x
nanovolts x = omega (arith, ints)

safe_word : (v : Verdict) → is_safe v ≡ true → v ≡ Safe
safe_word Safe e = refl
safe_word Unsafe e = cc
safe_word Undecided e = cc
safe_word NoLimit e = cc

unsafe_word : (v : Verdict) → is_unsafe v ≡ true → v ≡ Unsafe
unsafe_word Safe e = cc
unsafe_word Unsafe e = refl
unsafe_word Undecided e = cc
unsafe_word NoLimit e = cc

-- A verdict of two tests that is safe, and one that is unsafe.
safe_by_tests : (a b : Bool) → (if a then Unsafe else (if b then Safe else Undecided)) ≡ Safe → b ≡ true
safe_by_tests true b e = cc
safe_by_tests false true e = refl
safe_by_tests false false e = cc

unsafe_by_tests : (a b : Bool) → (if a then Unsafe else (if b then Safe else Undecided)) ≡ Unsafe → a ≡ true
unsafe_by_tests true b e = refl
unsafe_by_tests false true e = cc
unsafe_by_tests false false e = cc

one_of_two : (a b : Bool) → (not a || b) ≡ true → a ≡ true → b ≡ true
one_of_two true b e f = e
one_of_two false b e f = cc

module _ (c : Certificate) (bounds : AreBounds c) (q : ℕ) (p cs drawn : ℕ → ℤ) (sol : IsSolution c.net q p cs drawn) where
  pub voltage_within : (node : ℕ) → node < c.net.nodes → LiesWithin nanovolt q (p node) (shown_voltage c node)
  voltage_within node l =
      within_units nanovolt q (entry_of c.low node) (entry_of c.high node) (p node) (omega arith) (bounds.low q p cs drawn sol node l) (bounds.high q p cs drawn sol node l)

  pub current_within : (k : ℕ) → k < length c.net.resistors → LiesWithin nanoampere q (cs k) (shown_current c (resistor_at c.net k))
  current_within k l =
      let none : Resistor = record { a = 0; b = 0; ohms = pos 0 } in
      let r = resistor_at c.net k in
      let is : IsResistorOf c.net.nodes r = bounds.well_formed.each_resistor k none l in
      let ohm : p r.a -ℤ p r.b ≡ r.ohms *ℤ cs k = sol.ohm k none l in
      within_units nanoampere q (least_current c.high c.low r) (greatest_current c.high c.low r) (cs k) (omega arith)
      (current_above q r.ohms (p r.a) (p r.b) (entry_of c.low r.a) (entry_of c.high r.b) (cs k) is.resists ohm (bounds.low q p cs drawn sol r.a is.a_is_node) (bounds.high q p cs drawn sol r.b is.b_is_node))
      (current_below q r.ohms (p r.a) (p r.b) (entry_of c.high r.a) (entry_of c.low r.b) (cs k) is.resists ohm (bounds.high q p cs drawn sol r.a is.a_is_node) (bounds.low q p cs drawn sol r.b is.b_is_node))

  branch_in : (k : ℕ) → k < length c.net.resistors → let shown = shown_current c (resistor_at c.net k) in LiesIn (shown.0 *ℤ pos nanoampere) (shown.1 *ℤ pos nanoampere) q (cs k)
  branch_in k l = let shown = shown_current c (resistor_at c.net k) in in_units nanoampere q (cs k) shown.0 shown.1 (current_within k l) (nanoamperes shown.0) (nanoamperes shown.1)

  node_in : (node : ℕ) (supply : ℤ) → node < c.net.nodes → let shown = shown_voltage c node in LiesIn ((shown.0 *ℤ pos nanovolt) -ℤ supply) ((shown.1 *ℤ pos nanovolt) -ℤ supply) q (p node -ℤ (pos q *ℤ supply))
  node_in node supply l = let shown = shown_voltage c node in around nanovolt q (p node) shown.0 shown.1 supply (voltage_within node l) (nanovolts shown.0) (nanovolts shown.1)

  module _ (tell : EndsTell) where
    pub safe_branch : (k limit : ℕ) (stated : Option ℕ) → k < length c.net.resistors → stated ≡ Some limit → branch_verdict c (resistor_at c.net k, stated) ≡ Safe → KeepsLimit limit q (cs k)
    safe_branch k limit stated l e safe =
        let shown = shown_current c (resistor_at c.net k) in
        let at = ap (λ (o : Option ℕ). branch_verdict c (resistor_at c.net k, o)) (sym e) ∙ safe in
        tell.safe (shown.0 *ℤ pos nanoampere) (shown.1 *ℤ pos nanoampere) limit at q (cs k) sol.denominator (branch_in k l)

    pub unsafe_branch : (k limit : ℕ) (stated : Option ℕ) → k < length c.net.resistors → stated ≡ Some limit → branch_verdict c (resistor_at c.net k, stated) ≡ Unsafe → ¬ KeepsLimit limit q (cs k)
    unsafe_branch k limit stated l e not_safe =
        let shown = shown_current c (resistor_at c.net k) in
        let at = ap (λ (o : Option ℕ). branch_verdict c (resistor_at c.net k, o)) (sym e) ∙ not_safe in
        tell.not_safe (shown.0 *ℤ pos nanoampere) (shown.1 *ℤ pos nanoampere) limit at q (cs k) sol.denominator (branch_in k l)

    pub safe_net : (limits : Limits) (k : ℕ) (supply drop : ℤ) → drop_verdict c limits k supply drop ≡ Safe → EachNodeKeeps c.net limits k supply drop q p
    safe_net limits k supply drop safe node l of =
        let shown = shown_voltage c node in
        let unsafes : ℕ → Bool = λ i. is_of_net limits k i && is_unsafe (node_verdict c i supply drop) in
        let safes : ℕ → Bool = λ i. not (is_of_net limits k i) || is_safe (node_verdict c i supply drop) in
        let each = (each_tells c.net.nodes safes).0 (safe_by_tests (some_below c.net.nodes unsafes) (each_below c.net.nodes safes) safe) node l in
        let here = one_of_two (is_of_net limits k node) (is_safe (node_verdict c node supply drop)) each (eq-eqb _ _ of) in
        tell.safe ((shown.0 *ℤ pos nanovolt) -ℤ supply) ((shown.1 *ℤ pos nanovolt) -ℤ supply) (unsigned_abs drop) (safe_word (node_verdict c node supply drop) here) q
        (p node -ℤ (pos q *ℤ supply)) sol.denominator (node_in node supply l)

    pub unsafe_net : (limits : Limits) (k : ℕ) (supply drop : ℤ) → drop_verdict c limits k supply drop ≡ Unsafe → SomeNodePasses c.net limits k supply drop q p
    unsafe_net limits k supply drop not_safe =
        let unsafes : ℕ → Bool = λ i. is_of_net limits k i && is_unsafe (node_verdict c i supply drop) in
        let safes : ℕ → Bool = λ i. not (is_of_net limits k i) || is_safe (node_verdict c i supply drop) in
        let some = (some_tells c.net.nodes unsafes).0 (unsafe_by_tests (some_below c.net.nodes unsafes) (each_below c.net.nodes safes) not_safe) in
        let shown = shown_voltage c some.0 in
        let parts = and_parts (is_of_net limits k some.0) (is_unsafe (node_verdict c some.0 supply drop)) some.2 in (
          some.0,
          some.1,
          eqb-true _ _ parts.0,
          tell.not_safe ((shown.0 *ℤ pos nanovolt) -ℤ supply) ((shown.1 *ℤ pos nanovolt) -ℤ supply) (unsigned_abs drop) (unsafe_word (node_verdict c some.0 supply drop) parts.1) q
              (p some.0 -ℤ (pos q *ℤ supply)) sol.denominator (node_in some.0 supply some.1),
        )

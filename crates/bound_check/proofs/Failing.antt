-- There is no failing test exactly where the certificate holds.
use Rattle.std.proofs.lemmas.List.{get_or_default}
use Rattle.std.proofs.Common.{subst, ◌≡◌, ℕ, ◌<◌, ℤ, pos, negsuc, neg_ℤ, ◌-ℤ◌, ◌≤ℤ◌, arith, refl, sym, ap, ◌∙◌, List, length, get_or, All, Option, Some, None, Bool, true, false, ◌&&◌}
use Rattle.std.proofs.lemmas.Int.{ints}
use lib.Signed.{le_z}
use Rattle.grid_net.specs.declared.part.Resistor.{Resistor}
use Rattle.bound_check.specs.declared.fails.Fails.{Fails}
use Rattle.bound_check.specs.declared.fails.Side.{Side}
use Rattle.bound_check.specs.declared.fails.Side.TheVariants.{HighValue, LowValue, HighFlow, LowFlow, High, Low}
use Rattle.rounding.specs.Rounding.{floor_div, ceil_div}
use Rattle.grid_net.specs.Network.{Network, entry_of, pad_at}
use Rattle.grid_net.specs.Limits.{IsInLimit}
use Rattle.grid_net.specs.Certificate.{FlowsWithin, value_limit, flow_limit, high_sum, low_sum, HighHolds, LowHolds, IsCertificate}
use Rattle.grid_net.specs.Laws.Search.{none_first, none_second, none_both, none_of, of_none, none_below, below_none}
use Rattle.grid_net.specs.Search.{or_else}
use Rattle.bound_check.specs.Failing.{unless, in_limit, value_test, flow_test, sum_test, values_round, flows_round, sums_round, first_failing}

-- ---- one test
passes : (b : Bool) (node : ℕ) (side : Side) (found : ℤ) → unless b node side found ≡ None → b ≡ true
passes true node side found e = refl
passes false node side found e = absurd (let f : ◌≡◌ {A = Option Fails} (Some (record { node = node; side = side; found = found })) None = e in cc)

passed : (b : Bool) (node : ℕ) (side : Side) (found : ℤ) → b ≡ true → unless b node side found ≡ None
passed b node side found e = ap (λ t. unless t node side found) e

both_true : (a b : Bool) → (a && b) ≡ true → (a ≡ true) × (b ≡ true)
both_true true b e = (refl, e)
both_true false b e = cc

true_both : (a b : Bool) → a ≡ true → b ≡ true → (a && b) ≡ true
true_both a b e f = ap (λ t. t && b) e ∙ f

le_out : (x y : ℤ) → le_z x y ≡ true → x ≤ℤ y
le_out x y e = omega (arith, ints)

le_in : (x y : ℤ) → x ≤ℤ y → le_z x y ≡ true
le_in x y h = sym (omega (arith, ints))

limit_out : (limit : ℕ) (z : ℤ) → in_limit limit z ≡ true → IsInLimit limit z
limit_out limit z e =
    let b = both_true (le_z (neg_ℤ (pos limit)) z) (le_z z (pos limit)) e in
    (le_out (neg_ℤ (pos limit)) z b.0, le_out z (pos limit) b.1)

pub limit_in : (limit : ℕ) (z : ℤ) → IsInLimit limit z → in_limit limit z ≡ true
limit_in limit z h = true_both (le_z (neg_ℤ (pos limit)) z) (le_z z (pos limit)) (le_in (neg_ℤ (pos limit)) z h.0) (le_in z (pos limit) h.1)

-- Two tests, high before low.
two_pass : (a b : Bool) (node node' : ℕ) (side side' : Side) (found found' : ℤ) → or_else (unless a node side found) (unless b node' side' found') ≡ None → (a ≡ true) × (b ≡ true)
two_pass a b node node' side side' found found' e = (
  passes a node side found (none_first (unless a node side found) (unless b node' side' found') e),
  passes b node' side' found' (none_second (unless a node side found) (unless b node' side' found') e),
)

pub two_passed : (a b : Bool) (node node' : ℕ) (side side' : Side) (found found' : ℤ) → a ≡ true → b ≡ true → or_else (unless a node side found) (unless b node' side' found') ≡ None
two_passed a b node node' side side' found found' e f = none_both (unless a node side found) (unless b node' side' found') (passed a node side found e) (passed b node' side' found' f)

module _ (net : Network) (high low : ℕ → ℤ) where
  value_out : (i : ℕ) → value_test high low i ≡ None → IsInLimit value_limit (high i) × IsInLimit value_limit (low i)
  value_out i e =
      let b = two_pass (in_limit value_limit (high i)) (in_limit value_limit (low i)) i i HighValue LowValue (high i) (low i) e in
      (limit_out value_limit (high i) b.0, limit_out value_limit (low i) b.1)

  value_in : (i : ℕ) → IsInLimit value_limit (high i) → IsInLimit value_limit (low i) → value_test high low i ≡ None
  value_in i h k = two_passed (in_limit value_limit (high i)) (in_limit value_limit (low i)) i i HighValue LowValue (high i) (low i) (limit_in value_limit (high i) h) (limit_in value_limit (low i) k)

  flow_out : (r : Resistor) → flow_test high low r ≡ None → IsInLimit flow_limit (floor_div (high r.a -ℤ high r.b) r.ohms) × IsInLimit flow_limit (ceil_div (low r.a -ℤ low r.b) r.ohms)
  flow_out r e =
      let of_high = floor_div (high r.a -ℤ high r.b) r.ohms in
      let of_low = ceil_div (low r.a -ℤ low r.b) r.ohms in
      let b = two_pass (in_limit flow_limit of_high) (in_limit flow_limit of_low) r.a r.a HighFlow LowFlow of_high of_low e in
      (limit_out flow_limit of_high b.0, limit_out flow_limit of_low b.1)

  flow_in : (r : Resistor) → IsInLimit flow_limit (floor_div (high r.a -ℤ high r.b) r.ohms) → IsInLimit flow_limit (ceil_div (low r.a -ℤ low r.b) r.ohms) → flow_test high low r ≡ None
  flow_in r h k =
      let of_high = floor_div (high r.a -ℤ high r.b) r.ohms in
      let of_low = ceil_div (low r.a -ℤ low r.b) r.ohms in
      two_passed (in_limit flow_limit of_high) (in_limit flow_limit of_low) r.a r.a HighFlow LowFlow of_high of_low (limit_in flow_limit of_high h) (limit_in flow_limit of_low k)

  pad_out : (i : ℕ) (v : ℤ) → sum_test net high low i (Some v) ≡ None → (v ≤ℤ high i) × (low i ≤ℤ v)
  pad_out i v e =
      let b = two_pass (le_z (pos 0) (high i -ℤ v)) (le_z (low i -ℤ v) (pos 0)) i i High Low (high i -ℤ v) (low i -ℤ v) e in
      let h = le_out (pos 0) (high i -ℤ v) b.0 in
      let k = le_out (low i -ℤ v) (pos 0) b.1 in
      (omega (arith, ints, h), omega (arith, ints, k))

  pad_in : (i : ℕ) (v : ℤ) → v ≤ℤ high i → low i ≤ℤ v → sum_test net high low i (Some v) ≡ None
  pad_in i v h k = two_passed (le_z (pos 0) (high i -ℤ v)) (le_z (low i -ℤ v) (pos 0)) i i High Low (high i -ℤ v) (low i -ℤ v) (le_in (pos 0) (high i -ℤ v) (omega (arith, ints, h))) (le_in (low i -ℤ v) (pos 0) (omega (arith, ints, k)))

  sum_out : (i : ℕ) → sum_test net high low i None ≡ None → (pos 1 ≤ℤ high_sum net high i) × (low_sum net low i ≤ℤ negsuc 0)
  sum_out i e =
      let b = two_pass (le_z (pos 1) (high_sum net high i)) (le_z (low_sum net low i) (negsuc 0)) i i High Low (high_sum net high i) (low_sum net low i) e in
      (le_out (pos 1) (high_sum net high i) b.0, le_out (low_sum net low i) (negsuc 0) b.1)

  sum_in : (i : ℕ) → pos 1 ≤ℤ high_sum net high i → low_sum net low i ≤ℤ negsuc 0 → sum_test net high low i None ≡ None
  sum_in i h k = two_passed (le_z (pos 1) (high_sum net high i)) (le_z (low_sum net low i) (negsuc 0)) i i High Low (high_sum net high i) (low_sum net low i) (le_in (pos 1) (high_sum net high i) h) (le_in (low_sum net low i) (negsuc 0) k)

  -- What a round without a failing test says.
  module _ (none : sums_round net high low ≡ None) where
    at_node : (i : ℕ) → i < net.nodes → (o : Option ℤ) → pad_at net i ≡ o → sum_test net high low i o ≡ None
    at_node i l o e = ap (sum_test net high low i) (sym e) ∙ none_below net.nodes (λ j. sum_test net high low j (pad_at net j)) none i l

    pub high_from_sums : HighHolds net high
    high_from_sums = record {
      pads = λ i v l e. (pad_out i v (at_node i l (Some v) e)).0;
      sums = λ i l e. (sum_out i (at_node i l None e)).0;
    }

    pub low_from_sums : LowHolds net low
    low_from_sums = record {
      pads = λ i v l e. (pad_out i v (at_node i l (Some v) e)).1;
      sums = λ i l e. (sum_out i (at_node i l None e)).1;
    }

  pub sums_pass : HighHolds net high → LowHolds net low → sums_round net high low ≡ None
  sums_pass of_high of_low = below_none net.nodes (λ j. sum_test net high low j (pad_at net j)) (λ i l. by_pad i l (pad_at net i) refl)
    where
      by_pad : (i : ℕ) → i < net.nodes → (o : Option ℤ) → pad_at net i ≡ o → sum_test net high low i (pad_at net i) ≡ None
      by_pad i l None e = ap (sum_test net high low i) e ∙ sum_in i (of_high.sums i l e) (of_low.sums i l e)
      by_pad i l (Some v) e = ap (sum_test net high low i) e ∙ pad_in i v (of_high.pads i v l e) (of_low.pads i v l e)

module _ (net : Network) (high low : List ℤ) where
  abbrev high_list : ℕ → ℤ
  high_list = entry_of high

  abbrev low_list : ℕ → ℤ
  low_list = entry_of low

  pub passes_from_none : first_failing net high low ≡ None → IsCertificate net high low
  passes_from_none e =
      let values = none_first (values_round net high_list low_list) (or_else (flows_round net high_list low_list) (sums_round net high_list low_list)) e in
      let rest = none_second (values_round net high_list low_list) (or_else (flows_round net high_list low_list) (sums_round net high_list low_list)) e in
      let flows = none_of (flow_test high_list low_list) net.resistors (none_first (flows_round net high_list low_list) (sums_round net high_list low_list) rest) in
      let sums = none_second (flows_round net high_list low_list) (sums_round net high_list low_list) rest in
      record {
        high_half = record {
          values = λ i l. (value_out net high_list low_list i (none_below net.nodes (value_test high_list low_list) values i l)).0;
          flows = λ k d l. (flow_out net high_list low_list (get_or net.resistors k d) (flows k d l)).0;
          holds = high_from_sums net high_list low_list sums;
        };
        low_half = record {
          values = λ i l. (value_out net high_list low_list i (none_below net.nodes (value_test high_list low_list) values i l)).1;
          flows = λ k d l. (flow_out net high_list low_list (get_or net.resistors k d) (flows k d l)).1;
          holds = low_from_sums net high_list low_list sums;
        };
      }

  pub none_from_passes : IsCertificate net high low → first_failing net high low ≡ None
  none_from_passes cert =
      none_both (values_round net high_list low_list) (or_else (flows_round net high_list low_list) (sums_round net high_list low_list))
      (below_none net.nodes (value_test high_list low_list) (λ i l. value_in net high_list low_list i (cert.high_half.values i l) (cert.low_half.values i l)))
      (none_both (flows_round net high_list low_list) (sums_round net high_list low_list)
      (of_none (flow_test high_list low_list) net.resistors (λ k d l. flow_in net high_list low_list (get_or net.resistors k d) (cert.high_half.flows k d l) (cert.low_half.flows k d l)))
      (sums_pass net high_list low_list cert.high_half.holds cert.low_half.holds))

-- ---- what a round without a failing test says of the lists
module _ (net : Network) (high low : List ℤ) where
  abbrev high_of : ℕ → ℤ
  high_of = entry_of high

  abbrev low_of : ℕ → ℤ
  low_of = entry_of low

  pub values_of_high : length high ≡ net.nodes → values_round net high_of low_of ≡ None → All (IsInLimit value_limit) high
  values_of_high size none = λ k d l.
      let v = (value_out net high_of low_of k (none_below net.nodes (value_test high_of low_of) none k (omega (arith, size)))).0 in
      subst (IsInLimit value_limit) (get_or_default high k (pos 0) d l) v

  pub values_of_low : length low ≡ net.nodes → values_round net high_of low_of ≡ None → All (IsInLimit value_limit) low
  values_of_low size none = λ k d l.
      let v = (value_out net high_of low_of k (none_below net.nodes (value_test high_of low_of) none k (omega (arith, size)))).1 in
      subst (IsInLimit value_limit) (get_or_default low k (pos 0) d l) v

  pub flows_of_high : flows_round net high_of low_of ≡ None → FlowsWithin floor_div net flow_limit high_of
  flows_of_high none = λ k d l. (flow_out net high_of low_of (get_or net.resistors k d) (none_of (flow_test high_of low_of) net.resistors none k d l)).0

  pub flows_of_low : flows_round net high_of low_of ≡ None → FlowsWithin ceil_div net flow_limit low_of
  flows_of_low none = λ k d l. (flow_out net high_of low_of (get_or net.resistors k d) (none_of (flow_test high_of low_of) net.resistors none k d l)).1

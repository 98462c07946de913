-- No node misses the tightness exactly where the two lists are tight, if the two halves of the sums hold.
use Rattle.std.proofs.Common.{◌≡◌, ℕ, ◌<◌, ℤ, pos, negsuc, ◌-ℤ◌, ◌≤ℤ◌, arith, refl, sym, ap, subst, List, Option, Some, None, Bool, true, false, cond}
use Rattle.std.proofs.lemmas.Int.{ints, clamps}
use lib.Signed.{le_z}
use Rattle.std.specs.Int.{int_max}
use Rattle.grid_net.specs.Network.{Network, entry_of, pad_at}
use Rattle.grid_net.specs.Certificate.{HighHolds, LowHolds, IsTight, high_sum, low_sum, most_excess}
use Rattle.bound_check.specs.Loose.{excess, greatest_excess, loose_test, first_loose}
use Rattle.grid_net.specs.Laws.Search.{none_below, below_none}

stays : (b : Bool) (x : ℕ × ℤ) → cond b None (Some x) ≡ None → b ≡ true
stays true x e = refl
stays false x e = absurd (let f : ◌≡◌ {A = Option (ℕ × ℤ)} (Some x) None = e in cc)

le_in : (x y : ℤ) → x ≤ℤ y → le_z x y ≡ true
le_in x y h = sym (omega (arith, ints))

both_most : (x y m : ℤ) → int_max x y ≤ℤ m → (x ≤ℤ m) × (y ≤ℤ m)
both_most x y m h = (omega (arith, ints, clamps), omega (arith, ints, clamps))

most_both : (x y m : ℤ) → x ≤ℤ m → y ≤ℤ m → int_max x y ≤ℤ m
most_both x y m h k = omega (arith, ints, clamps)

module _ (net : Network) (high low : List ℤ) where
  abbrev of_high : ℕ → ℤ
  of_high = entry_of high

  abbrev of_low : ℕ → ℤ
  of_low = entry_of low

  abbrev IsIn : ℕ → Option ℤ → Type 0
  IsIn i o = excess net of_high of_low i o ≤ℤ greatest_excess net i o

  at_node : first_loose net high low ≡ None → (i : ℕ) → i < net.nodes → (o : Option ℤ) → pad_at net i ≡ o → IsIn i o
  at_node none i l o e =
      let here = none_below net.nodes (loose_test net of_high of_low) none i l in
      let in_test = stays (le_z (excess net of_high of_low i (pad_at net i)) (greatest_excess net i (pad_at net i))) (i, excess net of_high of_low i (pad_at net i)) here in
      let le : IsIn i (pad_at net i) = omega (arith, ints, in_test) in
      subst (IsIn i) e le

  pub tight_from_none : HighHolds net of_high → LowHolds net of_low → first_loose net high low ≡ None → IsTight net high low
  tight_from_none highs lows none = record {
    high_pads = λ i v l e. (let b = both_most (of_high i -ℤ v) (v -ℤ of_low i) (pos 0) (at_node none i l (Some v) e) in omega (arith, ints, b, highs.pads i v l e));
    low_pads = λ i v l e. (let b = both_most (of_high i -ℤ v) (v -ℤ of_low i) (pos 0) (at_node none i l (Some v) e) in omega (arith, ints, b, lows.pads i v l e));
    high_sums = λ i l e. (both_most (high_sum net of_high i -ℤ pos 1) (negsuc 0 -ℤ low_sum net of_low i) (pos (most_excess net i)) (at_node none i l None e)).0;
    low_sums = λ i l e. (both_most (high_sum net of_high i -ℤ pos 1) (negsuc 0 -ℤ low_sum net of_low i) (pos (most_excess net i)) (at_node none i l None e)).1;
  }

  pub none_from_tight : IsTight net high low → first_loose net high low ≡ None
  none_from_tight tight = below_none net.nodes (loose_test net of_high of_low) (λ i l. by_pad i l)
    where
      is_in : (i : ℕ) → i < net.nodes → (o : Option ℤ) → pad_at net i ≡ o → IsIn i o
      is_in i l (Some v) e = most_both (of_high i -ℤ v) (v -ℤ of_low i) (pos 0) (omega (arith, ints, tight.high_pads i v l e)) (omega (arith, ints, tight.low_pads i v l e))
      is_in i l None e = most_both (high_sum net of_high i -ℤ pos 1) (negsuc 0 -ℤ low_sum net of_low i) (pos (most_excess net i)) (tight.high_sums i l e) (tight.low_sums i l e)

      by_pad : (i : ℕ) → i < net.nodes → loose_test net of_high of_low i ≡ None
      by_pad i l = ap (λ b. cond b None (Some (i, excess net of_high of_low i (pad_at net i)))) (le_in (excess net of_high of_low i (pad_at net i)) (greatest_excess net i (pad_at net i)) (is_in i l (pad_at net i) refl))

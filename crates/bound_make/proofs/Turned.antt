-- The low half of the test is the high half of the mirrored network.
use Rattle.std.proofs.Common.{◌≡◌, ℕ, ℤ, neg_ℤ, arith}
use Rattle.grid_net.specs.Laws.Mirror.{no_pad_out, no_pad_in, pad_out, pad_in, load_in, outflow_turned}
use Rattle.std.proofs.lemmas.Int.{ints}
use Rattle.grid_net.specs.Network.{Network, FlowRule}
use Rattle.bound_make.specs.inside.Raising.{HighHoldsBy, IsTightAbove}
use Rattle.bound_make.specs.inside.Mirror.{LowHoldsBy, IsTightBelow}
use Rattle.grid_net.specs.Mirror.{mirror}

module _ (rule : FlowRule) (net : Network) (x z : ℕ → ℤ) (is : (j : ℕ) → x j ≡ neg_ℤ (z j)) where
  -- x is the negative of z: x satisfies the low half where z satisfies the high half of the mirror.
  pub low_from_high : HighHoldsBy rule (mirror net) z → LowHoldsBy rule net x
  low_from_high h = record {
    pads = λ i v l e. let k = h.pads i (neg_ℤ v) l (pad_in net i v e) in omega (arith, ints, k, is i);
    sums = λ i l e. let k = h.sums i l (no_pad_in net i e) in omega (arith, ints, k, load_in net i, outflow_turned rule net.resistors x z i is);
  }

  pub high_from_low : LowHoldsBy rule net x → HighHoldsBy rule (mirror net) z
  high_from_low h = record {
    pads = λ i v l e. let k = h.pads i (neg_ℤ v) l (pad_out net i v e) in omega (arith, ints, k, is i);
    sums = λ i l e. let k = h.sums i l (no_pad_out net i e) in omega (arith, ints, k, load_in net i, outflow_turned rule net.resistors x z i is);
  }

  pub tight_from_low : IsTightBelow rule net x → IsTightAbove rule (mirror net) z
  tight_from_low h = record {
    pads = λ i v l e. let k = h.pads i (neg_ℤ v) l (pad_out net i v e) in omega (arith, ints, k, is i);
    sums = λ i l e. let k = h.sums i l (no_pad_out net i e) in omega (arith, ints, k, load_in net i, outflow_turned rule net.resistors x z i is);
  }

  pub tight_from_high : IsTightAbove rule (mirror net) z → IsTightBelow rule net x
  tight_from_high h = record {
    pads = λ i v l e. let k = h.pads i (neg_ℤ v) l (pad_in net i v e) in omega (arith, ints, k, is i);
    sums = λ i l e. let k = h.sums i l (no_pad_in net i e) in omega (arith, ints, k, load_in net i, outflow_turned rule net.resistors x z i is);
  }

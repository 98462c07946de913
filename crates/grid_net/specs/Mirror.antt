-- The low side, as the high side of the network with every voltage and every load turned in sign.
use Rattle.std.specs.Prelude.{ℕ, ℤ, neg_ℤ, map}
use Rattle.grid_net.specs.declared.part.Pad.{Pad}
use Rattle.grid_net.specs.declared.part.LoadRange.{LoadRange}
use Rattle.grid_net.specs.Network.{Network, FlowRule}

-- A rule that rounds the other way: the negative of what the rule gives at the negative difference.
abbrev pub turned_rule : FlowRule → FlowRule
turned_rule rule z r = neg_ℤ (rule (neg_ℤ z) r)

-- The list with each number turned in sign.
abbrev pub turned : (ℕ → ℤ) → ℕ → ℤ
turned x i = neg_ℤ (x i)

-- A pad with its voltage turned in sign.
abbrev pub turned_pad : Pad → Pad
turned_pad p = record p { volts = neg_ℤ p.volts }

-- A load's range turned in sign, so that its ends change places.
abbrev pub turned_load : LoadRange → LoadRange
turned_load l = record { low = neg_ℤ l.high; high = neg_ℤ l.low }

-- The network with each pad's voltage and each load turned in sign.
abbrev pub mirror : Network → Network
mirror net = record net { pads = map turned_pad net.pads; loads = map turned_load net.loads }

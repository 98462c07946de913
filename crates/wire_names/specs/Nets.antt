-- The two nets of wiring (LEF/DEF 5.8 Language Reference, SPECIALNETS, USE POWER and USE GROUND).
use Rattle.std.specs.Prelude.{ℕ, Bool, cond, not, ◌&&◌, ◌||◌, nat_lt, List, length, filter}
use Rattle.def_wiring.specs.declared.record.WiredNet.{WiredNet}
use Rattle.def_wiring.specs.declared.record.Wires.{Wires}

-- A net has wiring where it has a segment or a via.
abbrev pub has_wiring : WiredNet → Bool
has_wiring net = nat_lt 0 (length net.segments) || nat_lt 0 (length net.vias)

-- Whether it is a power net, or whether it is a ground net, with wiring.
abbrev pub is_wired : Bool → WiredNet → Bool
is_wired power net = has_wiring net && cond power net.power (not net.power)

-- The power nets, or the ground nets, with wiring, in the order of the text.
abbrev pub wired_nets : Bool → Wires → List WiredNet
wired_nets power wires = filter (is_wired power) wires.nets

-- The number of the power net or of the ground net, where it is said which of the two comes first.
abbrev pub net_number : Bool → Bool → ℕ
net_number power_first power = cond power_first (cond power 0 1) (cond power 1 0)

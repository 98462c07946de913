-- A network as each of the two lists sees it. The low list is the high list of the network in which every voltage and
-- every load is turned in sign.
use Rattle.std.specs.Prelude.{ℤ, neg_ℤ, List, map}
use Rattle.grid_net.specs.declared.part.Pad.{Pad}
use Rattle.grid_net.specs.declared.part.LoadRange.{LoadRange}
use Rattle.grid_net.specs.Network.{Network}
use Rattle.grid_net.specs.Mirror.{turned_pad, turned_load}
use Rattle.bound_make.specs.declared.half.Half.{Half}
use Rattle.bound_make.specs.declared.half.Half.TheVariants.{High, Low}

-- A voltage as a half sees it.
abbrev pub seen_volts : Half → ℤ → ℤ
seen_volts High v = v
seen_volts Low v = neg_ℤ v

abbrev pub seen_pads : Half → List Pad → List Pad
seen_pads High pads = pads
seen_pads Low pads = map turned_pad pads

abbrev pub seen_loads : Half → List LoadRange → List LoadRange
seen_loads High loads = loads
seen_loads Low loads = map turned_load loads

-- The network as a half sees it.
abbrev pub seen : Half → Network → Network
seen half net =
    record { nodes = net.nodes; resistors = net.resistors; pads = seen_pads half net.pads; loads = seen_loads half net.loads }

-- The potentials of the nets before the next one.
use Rattle.std.proofs.Common.{◌≡◌, take}
use Rattle.grid_taps.specs.inside.Steps.{AreVolts, supply_names}
use Rattle.grid_taps.proofs.supply.volts_of.Given as goal

abbrev pub invariant-loop-net : goal.invariant-loop-net
invariant-loop-net l = (l.table ≡ supply_names l.supplies) × AreVolts l.supplies (take l.net-index l.nets) l.volts.items

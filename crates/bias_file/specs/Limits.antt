-- What every record of a bias file keeps: names stand once, and numbers are within their limits and have the sign that
-- is asked of them.
use Rattle.name_table.specs.Numbering.{AreDistinct}
use Rattle.std.specs.Prelude.{◌^◌, ◌≤◌, pos, ◌≤ℤ◌, unsigned_abs, map, All}
use Rattle.bias_file.specs.declared.record.Bias.{Bias}
use Rattle.bias_file.specs.declared.record.Supply.{Supply}
use Rattle.bias_file.specs.declared.record.DropLimit.{DropLimit}
use Rattle.bias_file.specs.declared.record.PadAt.{PadAt}
use Rattle.bias_file.specs.declared.record.Amps.{Amps}

-- A potential is within 10 V of 0.
abbrev pub SupplyKeeps : Supply → Type 0
SupplyKeeps supply = unsigned_abs supply.volts ≤ 10 ^ 25

-- A drop limit is from 0 to 10 V.
abbrev pub DropLimitKeeps : DropLimit → Type 0
DropLimitKeeps limit = (pos 0 ≤ℤ limit.volts) × (limit.volts ≤ℤ pos (10 ^ 25))

-- A place is within 100 mm of the origin in x and in y.
abbrev pub PadKeeps : PadAt → Type 0
PadKeeps pad = (unsigned_abs pad.x ≤ 10 ^ 11) × (unsigned_abs pad.y ≤ 10 ^ 11)

-- A current's range goes up, from 0 to 1000 A.
abbrev pub AmpsKeep : Amps → Type 0
AmpsKeep amps = (pos 0 ≤ℤ amps.low) × (amps.low ≤ℤ amps.high) × (amps.high ≤ℤ pos (10 ^ 18))

-- Of each kind of entry all keep their limits, and no two are of one net, one macro or one component; pads may repeat.
pub record BiasKeeps (bias : Bias) : Type 0 where
  pub supplies : All SupplyKeeps bias.supplies
  pub drops : All DropLimitKeeps bias.drops
  pub pads : All PadKeeps bias.pads
  pub cells : All AmpsKeep bias.cells
  pub instances : All AmpsKeep bias.instances
  pub supplied_nets : AreDistinct (map (λ supply. supply.net) bias.supplies)
  pub limited_nets : AreDistinct (map (λ limit. limit.net) bias.drops)
  pub macros : AreDistinct (map (λ amps. amps.name) bias.cells)
  pub components : AreDistinct (map (λ amps. amps.name) bias.instances)

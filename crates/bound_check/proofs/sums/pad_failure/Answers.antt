use Rattle.std.proofs.Common.{◌-ℤ◌, arith, to_z-of_z, SFits}
use mir.Syntax.{w128}
use Rattle.std.proofs.lemmas.Int.{ints}
use Rattle.bound_check.proofs.sums.pad_failure.Goals as goal

pub returns : goal.returns
returns c =
    let fv = c.ranges.volts in
    let fh = c.ranges.high in
    let fl = c.ranges.low in
    let above : SFits w128 (c.args.high -ℤ c.args.volts) = omega (arith, ints, c.requires.volts, c.requires.high) in
    let below : SFits w128 (c.args.low -ℤ c.args.volts) = omega (arith, ints, c.requires.volts, c.requires.low) in
    simp to_z-of_z at c.entry_failure.ensures

use Rattle.std.proofs.Common.{◌∙◌, ap, ◌+ℤ◌, arith, List, SFits, rules}
use mir.Syntax.{w64, w128}
use Rattle.std.proofs.lemmas.Int.{ints}
use Rattle.rounding.specs.Rounding.{floor_div, ceil_div}
use Rattle.grid_net.specs.declared.part.Resistor.{Resistor}
use Rattle.grid_net.specs.Network.{outflow, entry_of}
use Rattle.bound_check.proofs.sums.node_sums.Goals as goal

pub returns : goal.returns
returns c =
    let node = c.args.node in
    let x = entry_of c.args.high.now in
    let y = entry_of c.args.low.now in
    let fd : SFits w128 c.outflow_of-down.result = search rules in
    let fu : SFits w128 c.outflow_of-up.result = search rules in
    let fl : SFits w64 c.load-low_load.result.0 = search rules in
    let fh : SFits w64 c.load-low_load.result.1 = search rules in
    let wl : SFits w128 c.load-low_load.result.0 = omega (arith, ints, fl) in
    let wh : SFits w128 c.load-low_load.result.1 = omega (arith, ints, fh) in
    let down_within = c.outflow_of-down.ensures.within in
    let up_within = c.outflow_of-up.ensures.within in
    let sd : SFits w128 (c.outflow_of-down.result +ℤ c.load-low_load.result.0) = omega (arith, ints, down_within, fl) in
    let su : SFits w128 (c.outflow_of-up.result +ℤ c.load-low_load.result.1) = omega (arith, ints, up_within, fh) in
    let rs = c.resistors-resistors.ensures in
    let down = c.outflow_of-down.ensures.value ∙ ap (λ (xs : List Resistor). outflow floor_div xs x node) rs in
    let up = c.outflow_of-up.ensures.value ∙ ap (λ (xs : List Resistor). outflow ceil_div xs y node) rs in
    record {
      high = omega (arith, ints, down, c.load-low_load.ensures.low);
      low = omega (arith, ints, up, c.load-low_load.ensures.high);
      high_within = (omega (arith, ints, down_within, fl), omega (arith, ints, down_within, fl));
      low_within = (omega (arith, ints, up_within, fh), omega (arith, ints, up_within, fh));
    }

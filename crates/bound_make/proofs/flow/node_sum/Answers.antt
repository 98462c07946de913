use Rattle.std.proofs.Common.{◌∙◌, ap, ◌+ℤ◌, arith, SFits, List}
use mir.Syntax.{w128}
use Rattle.std.proofs.lemmas.Int.{ints}
use Rattle.grid_net.specs.declared.part.Resistor.{Resistor}
use Rattle.grid_net.specs.Network.{outflow, entry_of}
use Rattle.bound_make.specs.inside.Moving.{held_rule}
use Rattle.bound_make.proofs.flow.node_sum.Goals as goal

pub overflow_add-result : goal.overflow_add-result
overflow_add-result c =
    let a : SFits w128 c.held_outflow-outflow.result = omega (arith, ints, c.held_outflow-outflow.ensures.within) in
    let b : SFits w128 c.least_load-load.result = omega (arith, ints, c.least_load-load.ensures.within) in
    omega (arith, ints, a, b, c.held_outflow-outflow.ensures.within, c.least_load-load.ensures.within)

pub returns : goal.returns
returns c =
    let a : SFits w128 c.held_outflow-outflow.result = omega (arith, ints, c.held_outflow-outflow.ensures.within) in
    let b : SFits w128 c.least_load-load.result = omega (arith, ints, c.least_load-load.ensures.within) in
    let d : SFits w128 (c.held_outflow-outflow.result +ℤ c.least_load-load.result) = omega (arith, ints, c.held_outflow-outflow.ensures.within, c.least_load-load.ensures.within) in
    let e = c.held_outflow-outflow.ensures.value ∙ ap (λ (rs : List Resistor). outflow held_rule rs (entry_of c.args.x.now) c.args.node) c.resistors-resistors.ensures in
    record {
      value = omega (arith, ints, a, b, d, e, c.least_load-load.ensures.value);
      within = (omega (arith, ints, a, b, d, c.held_outflow-outflow.ensures.within, c.least_load-load.ensures.within), omega (arith, ints, a, b, d, c.held_outflow-outflow.ensures.within, c.least_load-load.ensures.within));
    }

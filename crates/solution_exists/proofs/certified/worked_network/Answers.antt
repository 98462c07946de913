use Rattle.grid_net.specs.Network.{entry_of}
use Rattle.bound_check.specs.Example.{example, example_high, example_low}
use Rattle.solution_exists.proofs.Supply.{each_supplied}
use Rattle.solution_exists.proofs.certified.worked_network.Goals as goal

pub returns-clause-supplied : goal.returns-clause-supplied
returns-clause-supplied s =
    let passes = s.worked_example.ensures.certificate in
    each_supplied example s.worked_example.ensures.network (entry_of example_high) (entry_of example_low) passes.high_half.holds
    passes.low_half.holds

pub returns-clause-drawn : goal.returns-clause-drawn
returns-clause-drawn s =
    let solution = s.worked_example.ensures.solution in
    record { denominator = solution.denominator; within = solution.drawn }

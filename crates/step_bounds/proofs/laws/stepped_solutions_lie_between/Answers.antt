use Rattle.step_bounds.specs.Capacitors.{companions}
use Rattle.step_bounds.proofs.Counted.{all_fit}
use Rattle.step_bounds.proofs.Solutions.{between}
use Rattle.step_bounds.proofs.laws.stepped_solutions_lie_between.Goals as goal

pub returns : goal.returns
returns s net caps changes time last high low built ok cert q p c k l sol t i h m =
    between s.built_network.ensures.kept_pads s.built_network.ensures.loads_add_up
    s.one_sided_principle.ensures.at_most_high s.one_sided_principle.ensures.at_least_low
    s.maximum_principle.ensures.at_most_high s.maximum_principle.ensures.at_least_low
    net built (companions net caps time) (all_fit net caps time) changes ok last high low cert q p c k l sol t i h m

use Rattle.step_bounds.specs.Capacitors.{companions}
use Rattle.step_bounds.proofs.Counted.{all_fit}
use Rattle.stepped_solution_exists.proofs.Unique.{same_voltages, same_currents, same_charges}
use Rattle.stepped_solution_exists.proofs.laws.a_stepped_solution_is_unique.Goals as goal

pub returns-clause-voltages : goal.returns-clause-voltages
returns-clause-voltages g net caps changes time last q r p c k l p' c' k' l' wf supplied one other alike t m i b =
    same_voltages net (companions net caps time) changes last q r p c k l p' c' k' l' wf supplied (all_fit net caps time) one other alike
    g.a_solution_is_unique.ensures.voltages g.a_branched_solution_is_unique.ensures.voltages t m i b

pub returns-clause-currents : goal.returns-clause-currents
returns-clause-currents g net caps changes time last q r p c k l p' c' k' l' wf supplied one other alike t m j b =
    same_currents net (companions net caps time) changes last q r p c k l p' c' k' l' wf supplied (all_fit net caps time) one other alike
    g.a_solution_is_unique.ensures.voltages g.a_branched_solution_is_unique.ensures.voltages
    g.a_solution_is_unique.ensures.currents g.a_branched_solution_is_unique.ensures.currents t m j b

pub returns-clause-charges : goal.returns-clause-charges
returns-clause-charges g net caps changes time last q r p c k l p' c' k' l' wf supplied one other alike t above m j b =
    same_charges net (companions net caps time) changes last q r p c k l p' c' k' l' wf supplied (all_fit net caps time) one other alike
    g.a_solution_is_unique.ensures.voltages g.a_branched_solution_is_unique.ensures.voltages
    g.a_branched_solution_is_unique.ensures.branch_currents t above m j b

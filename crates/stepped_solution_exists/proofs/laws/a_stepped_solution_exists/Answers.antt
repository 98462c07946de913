use Rattle.step_bounds.specs.Capacitors.{companions}
use Rattle.step_bounds.proofs.Counted.{all_fit}
use Rattle.stepped_solution_exists.specs.Existence.{low_ends_over}
use Rattle.stepped_solution_exists.proofs.Existing.{stepped}
use Rattle.stepped_solution_exists.proofs.Lows.{low_ends}
use Rattle.stepped_solution_exists.proofs.laws.a_stepped_solution_exists.Goals as goal

pub returns-clause-fixed : goal.returns-clause-fixed
returns-clause-fixed g net caps changes time last d drawn wf supplied given =
    stepped net (companions net caps time) changes wf supplied (all_fit net caps time) g.a_solution_exists.ensures.fixed g.a_branched_solution_exists.ensures
    g.solutions_scale.ensures d drawn last given

pub returns-clause-low_ends : goal.returns-clause-low_ends
returns-clause-low_ends g net caps changes time last wf supplied are =
    stepped net (companions net caps time) changes wf supplied (all_fit net caps time) g.a_solution_exists.ensures.fixed g.a_branched_solution_exists.ensures
    g.solutions_scale.ensures 1 (low_ends_over net changes) last (low_ends net changes last wf are)

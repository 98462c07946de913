use Rattle.grid_net.specs.Network.{low_load}
use Rattle.solution_exists.proofs.Plain.{plain, lows_are_drawn}
use Rattle.solution_exists.proofs.laws.a_solution_exists.Goals as goal

pub returns-clause-fixed : goal.returns-clause-fixed
returns-clause-fixed s net d drawn wf supplied given = plain net d drawn wf supplied given

pub returns-clause-low_ends : goal.returns-clause-low_ends
returns-clause-low_ends s net wf supplied = plain net 1 (low_load net) wf supplied (lows_are_drawn net wf)

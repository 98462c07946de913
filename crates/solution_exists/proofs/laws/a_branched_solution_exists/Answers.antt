use Rattle.solution_exists.proofs.Plain.{branched}
use Rattle.solution_exists.proofs.laws.a_branched_solution_exists.Goals as goal

pub returns : goal.returns
returns s net branches d held drawn wf supplied fit = branched net branches d held drawn wf supplied fit

use Rattle.solution_exists.proofs.Combined.{scaled}
use Rattle.solution_exists.proofs.laws.solutions_scale.Goals as goal

pub returns : goal.returns
returns s net branches n q h l p c k one = scaled net branches n q h l p c k one

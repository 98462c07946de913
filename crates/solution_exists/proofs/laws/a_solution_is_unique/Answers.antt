use Rattle.solution_exists.proofs.Plain.{plain_voltages, plain_currents}
use Rattle.solution_exists.proofs.laws.a_solution_is_unique.Goals as goal

pub returns-clause-voltages : goal.returns-clause-voltages
returns-clause-voltages s net q r p c l p' c' l' wf supplied one other drawn =
    plain_voltages net q r p c l p' c' l' wf supplied one other drawn

pub returns-clause-currents : goal.returns-clause-currents
returns-clause-currents s net q r p c l p' c' l' wf supplied one other drawn =
    plain_currents net q r p c l p' c' l' wf supplied one other drawn

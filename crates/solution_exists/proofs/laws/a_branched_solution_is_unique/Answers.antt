use Rattle.solution_exists.proofs.Unique.{same_voltages, same_currents, same_branches}
use Rattle.solution_exists.proofs.laws.a_branched_solution_is_unique.Goals as goal

pub returns-clause-voltages : goal.returns-clause-voltages
returns-clause-voltages s net branches q r h l p c k h' l' p' c' k' wf supplied fit one other held drawn =
    same_voltages net branches wf supplied fit q r h l p c k h' l' p' c' k' one other held drawn

pub returns-clause-currents : goal.returns-clause-currents
returns-clause-currents s net branches q r h l p c k h' l' p' c' k' wf supplied fit one other held drawn =
    same_currents net branches wf supplied fit q r h l p c k h' l' p' c' k' one other held drawn

pub returns-clause-branch_currents : goal.returns-clause-branch_currents
returns-clause-branch_currents s net branches q r h l p c k h' l' p' c' k' wf supplied fit one other held drawn =
    same_branches net branches wf supplied fit q r h l p c k h' l' p' c' k' one other held drawn

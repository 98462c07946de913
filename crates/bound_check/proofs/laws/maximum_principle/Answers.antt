use Rattle.bound_check.proofs.Principle.{solution_at_most_high, solution_at_least_low}
use Rattle.bound_check.proofs.laws.maximum_principle.Goals as goal

pub returns-clause-at_least_low : goal.returns-clause-at_least_low
returns-clause-at_least_low s net low q p c drawn wf holds sol i l =
    solution_at_least_low net q p c drawn low wf sol holds i l

pub returns-clause-at_most_high : goal.returns-clause-at_most_high
returns-clause-at_most_high s net high q p c drawn wf holds sol i l =
    solution_at_most_high net q p c drawn high wf sol holds i l

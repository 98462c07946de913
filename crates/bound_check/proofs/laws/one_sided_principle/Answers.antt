use Rattle.bound_check.proofs.Principle.{laws_at_most_high, laws_at_least_low}
use Rattle.bound_check.proofs.laws.one_sided_principle.Goals as goal

pub returns-clause-at_least_low : goal.returns-clause-at_least_low
returns-clause-at_least_low s net low q p c drawn wf holds laws pads i l =
    laws_at_least_low net q p c drawn low wf laws pads holds i l

pub returns-clause-at_most_high : goal.returns-clause-at_most_high
returns-clause-at_most_high s net high q p c drawn wf holds laws pads i l =
    laws_at_most_high net q p c drawn high wf laws pads holds i l

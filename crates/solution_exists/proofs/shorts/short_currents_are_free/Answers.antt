use Rattle.solution_exists.proofs.ByGroups.{round}
use Rattle.solution_exists.proofs.shorts.short_currents_are_free.Goals as goal

pub returns : goal.returns
returns k net shorts q p c l s there back x d first second ends sol =
    round net shorts q p c l s there back x d first second ends sol

use Rattle.fixed_decimal.proofs.Floors.{rounded_down_unique, rounded_up_unique}
use Rattle.fixed_decimal.proofs.laws.roundings_are_unique.Goals as goal

pub returns-clause-down : goal.returns-clause-down
returns-clause-down c = rounded_down_unique

pub returns-clause-up : goal.returns-clause-up
returns-clause-up c = rounded_up_unique

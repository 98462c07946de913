use Rattle.via_arrays.proofs.Single.{resistance_unique}
use Rattle.via_arrays.proofs.laws.one_resistance.Goals as goal

pub returns : goal.returns
returns c = resistance_unique

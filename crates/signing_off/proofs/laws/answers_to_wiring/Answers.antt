use Rattle.signing_off.proofs.Sorts.{sort}
use Rattle.signing_off.proofs.laws.answers_to_wiring.Goals as goal

pub returns : goal.returns
returns c = sort

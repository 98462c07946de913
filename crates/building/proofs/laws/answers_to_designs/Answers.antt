use Rattle.building.proofs.Sorts.{sort}
use Rattle.building.proofs.laws.answers_to_designs.Goals as goal

pub returns : goal.returns
returns c = sort

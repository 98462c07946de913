use Rattle.macro_building.proofs.Sorts.{sort}
use Rattle.macro_building.proofs.laws.answers_to_builds.Goals as goal

pub returns : goal.returns
returns c = sort c.answers_to_designs.ensures

use Rattle.solution_exists.proofs.Pads.{each_pad}
use Rattle.solution_exists.proofs.laws.each_pad_holds.Goals as goal

pub returns : goal.returns
returns s net q p c l agree on_nodes sol = each_pad net q p c l agree on_nodes sol

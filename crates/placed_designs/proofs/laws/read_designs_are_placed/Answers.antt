use Rattle.placed_designs.proofs.Formats.{placed}
use Rattle.placed_designs.proofs.laws.read_designs_are_placed.Goals as goal

pub returns : goal.returns
returns c = placed

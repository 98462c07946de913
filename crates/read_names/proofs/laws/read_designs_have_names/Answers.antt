use Rattle.read_names.proofs.Names.{names_are}
use Rattle.read_names.proofs.laws.read_designs_have_names.Goals as goal

pub returns : goal.returns
returns c = names_are

use Rattle.grid_cores.proofs.Joined.{each_in_other}
use Rattle.grid_cores.proofs.cores.one_core.Goals as goal

pub returns : goal.returns
returns c = λ rows one other is_one is_other. each_in_other one other (is_one.smallest other is_other.holds) (is_other.smallest one is_one.holds)

use Rattle.geom_rect.specs.Run.{IsOpen}
use Rattle.geom_rect.proofs.Unique.{maximal_runs_same}
use Rattle.geom_rect.proofs.laws.maximal_runs_are_unique.Goals as goal

pub returns : goal.returns
returns c = λ covered blocked. maximal_runs_same (IsOpen covered blocked)

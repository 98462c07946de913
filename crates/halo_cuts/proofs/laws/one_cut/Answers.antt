use Rattle.halo_cuts.proofs.Unique.{one_left}
use Rattle.halo_cuts.proofs.laws.one_cut.Goals as goal

pub returns : goal.returns
returns c = one_left c.maximal_runs_are_unique.ensures

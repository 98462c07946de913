use Rattle.via_arrays.proofs.Division.{by_division}
use Rattle.via_arrays.proofs.laws.counts_by_division.Goals as goal

pub returns : goal.returns
returns c = by_division

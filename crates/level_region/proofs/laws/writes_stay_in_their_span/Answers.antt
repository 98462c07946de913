use Rattle.level_region.proofs.Written.{part_of-others}
use Rattle.level_region.proofs.Both.{both_written-is}
use Rattle.level_region.proofs.laws.writes_stay_in_their_span.Goals as goal

pub returns-clause-others : goal.returns-clause-others
returns-clause-others c = part_of-others

pub returns-clause-both : goal.returns-clause-both
returns-clause-both c = both_written-is

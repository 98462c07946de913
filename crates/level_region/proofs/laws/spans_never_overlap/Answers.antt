use Rattle.level_region.proofs.Apart.{all_apart}
use Rattle.level_region.proofs.laws.spans_never_overlap.Goals as goal

pub returns : goal.returns
returns c = all_apart

use Rattle.grid_stacks.proofs.Refused.{site_keeps}
use Rattle.grid_stacks.proofs.laws.stacks_can_be_asked_for.Goals as goal

pub returns : goal.returns
returns c = site_keeps

use Rattle.grid_stacks.proofs.Refused.{site_alike}
use Rattle.grid_stacks.proofs.laws.one_site_at_a_place.Goals as goal

pub returns : goal.returns
returns c = site_alike

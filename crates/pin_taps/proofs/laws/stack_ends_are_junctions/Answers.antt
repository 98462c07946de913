use Rattle.pin_taps.proofs.Junctions.{ends_are_junctions}
use Rattle.pin_taps.proofs.laws.stack_ends_are_junctions.Goals as goal

pub returns : goal.returns
returns c = ends_are_junctions

use Rattle.pin_shapes.proofs.Metal.{metal}
use Rattle.pin_shapes.proofs.laws.pins_keep_their_metal.Goals as goal

pub returns : goal.returns
returns c = metal

use Rattle.macro_drawings.proofs.Whole.{nets_are}
use Rattle.macro_drawings.proofs.laws.nets_over_blocks_are_named.Goals as goal

pub returns : goal.returns
returns s = record { nets = λ tech cells blocks design script drawn drawing. nets_are tech cells blocks design script drawn drawing }

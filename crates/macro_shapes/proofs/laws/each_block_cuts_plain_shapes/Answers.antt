use Rattle.macro_shapes.proofs.Plain.{all_halos}
use Rattle.macro_shapes.proofs.laws.each_block_cuts_plain_shapes.Goals as goal

pub returns : goal.returns
returns c = all_halos

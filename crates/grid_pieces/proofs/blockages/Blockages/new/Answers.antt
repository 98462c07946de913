use Rattle.grid_pieces.proofs.Indexed.{index_blocks}
use Rattle.grid_pieces.proofs.blockages.Blockages.new.Goals as goal

pub returns : goal.returns
returns c = index_blocks c.args.blocks.now c.in_ok-along_x.along_x c.in_ok-along_x.ensures

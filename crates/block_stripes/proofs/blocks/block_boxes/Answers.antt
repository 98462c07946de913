use Rattle.block_stripes.proofs.Boxes.{boxes_keep}
use Rattle.block_stripes.proofs.blocks.block_boxes.Goals as goal

pub returns-clause-keep : goal.returns-clause-keep
returns-clause-keep c =
    boxes_keep c.args.tech.now c.args.blocks.now c.in_ok-boxes.boxes.items c.requires c.in_ok-boxes.ensures

use Rattle.macro_blocks.proofs.One.{blocks_read, blocks_keep, blocks_refused}
use Rattle.macro_blocks.proofs.read.read_blocks.Goals as goal

pub returns-in-Ok-clause-reads : goal.returns-in-Ok-clause-reads
returns-in-Ok-clause-reads c =
    blocks_read c.args.text.now c.read_into.new.said c.in-Ok.field-0 c.blocks_of.result c.in-Ok.ensures c.blocks_of.ensures.is

pub returns-in-Ok-clause-keeps : goal.returns-in-Ok-clause-keeps
returns-in-Ok-clause-keeps c =
    blocks_keep c.args.text.now c.read_into.new.said c.in-Ok.field-0 c.blocks_of.result c.in-Ok.ensures c.blocks_of.ensures.keeps

pub returns-in-Err-clause-reads : goal.returns-in-Err-clause-reads
returns-in-Err-clause-reads c =
    blocks_refused c.args.text.now c.read_into.new.said c.in-Err.error c.public_error.result c.in-Err.ensures c.public_error.ensures

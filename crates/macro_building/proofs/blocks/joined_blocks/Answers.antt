use Rattle.macro_building.proofs.blocks.joined_blocks.Goals as goal

pub returns-in-Ok-clause-keep : goal.returns-in-Ok-clause-keep
returns-in-Ok-clause-keep c = c.in-Ok.ensures.keeps c.in_ok-first.ensures.keep c.in_ok-second.ensures.keep

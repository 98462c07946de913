use Rattle.macro_drawings.proofs.Whole.{whole_keeps, written_fits}
use Rattle.macro_drawings.proofs.laws.drawings_over_blocks_are_grids.Goals as goal

pub returns-clause-keeps : goal.returns-clause-keeps
returns-clause-keeps s tech cells blocks design script drawn _ _ design_keeps _ drawing pieces stacks few_pieces few_stacks =
    whole_keeps tech cells blocks design script drawn drawing design_keeps pieces stacks few_pieces few_stacks

pub returns-clause-fits : goal.returns-clause-fits
returns-clause-fits s tech cells blocks design script drawn keeps _ design_keeps _ drawing pieces stacks _ _ =
    written_fits tech cells blocks design script drawn drawing keeps design_keeps pieces stacks

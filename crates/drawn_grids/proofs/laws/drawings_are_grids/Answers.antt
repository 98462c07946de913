use Rattle.drawn_grids.proofs.Ordered.{drawing_keeps, drawing_fits}
use Rattle.drawn_grids.proofs.laws.drawings_are_grids.Goals as goal

pub returns-clause-keeps : goal.returns-clause-keeps
returns-clause-keeps s tech cells design script grid _ _ design_keeps _ drawing pieces stacks few_pieces few_stacks =
    drawing_keeps tech cells design script grid design_keeps drawing pieces stacks few_pieces few_stacks

pub returns-clause-fits : goal.returns-clause-fits
returns-clause-fits s tech cells design script grid keeps _ design_keeps _ drawing pieces stacks _ _ =
    drawing_fits tech cells design script grid keeps design_keeps drawing pieces stacks

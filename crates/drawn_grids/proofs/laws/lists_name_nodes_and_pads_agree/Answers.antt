use Rattle.drawn_grids.proofs.Ordered.{drawing_keeps}
use Rattle.drawn_grids.proofs.laws.lists_name_nodes_and_pads_agree.Goals as goal

pub returns-clause-no_bad_end : goal.returns-clause-no_bad_end
returns-clause-no_bad_end s tech cells design script grid bias at keeps _ design_keeps _ drawing pieces stacks few_pieces few_stacks bias_keeps =
    s.no_bad_end_nor_conflict.ensures.no_bad_end tech cells design grid bias at keeps
    (drawing_keeps tech cells design script grid design_keeps drawing pieces stacks few_pieces few_stacks) bias_keeps

pub returns-clause-no_conflict : goal.returns-clause-no_conflict
returns-clause-no_conflict s tech cells design script grid bias node first second _ _ _ _ _ _ _ _ _ bias_keeps =
    s.no_bad_end_nor_conflict.ensures.no_conflict tech cells design grid bias node first second bias_keeps

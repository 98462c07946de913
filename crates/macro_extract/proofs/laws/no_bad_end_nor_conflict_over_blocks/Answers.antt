use Rattle.grid_extract.specs.Extraction.{drawing_of}
use Rattle.grid_extract.specs.Laws.Agreeing.{never_conflict}
use Rattle.macro_extract.proofs.Keeps.{is_drawing}
use Rattle.macro_extract.proofs.laws.no_bad_end_nor_conflict_over_blocks.Goals as goal

pub returns-clause-no_bad_end : goal.returns-clause-no_bad_end
returns-clause-no_bad_end s tech cells design drawn bias at keeps drawn_keeps bias_keeps refused =
    s.ends_are_nodes.ensures (drawing_of drawn.grid refused.pads refused.taps) tech at
    (is_drawing drawn tech cells bias design.components refused.pads refused.taps keeps drawn_keeps bias_keeps refused.stand.pads_are refused.stand.taps_are)
    refused.refused

pub returns-clause-no_conflict : goal.returns-clause-no_conflict
returns-clause-no_conflict s tech cells design drawn bias node first second keeps refused =
    never_conflict drawn.grid tech bias refused.pads refused.taps keeps refused.stand.pads_are node first second refused.refused

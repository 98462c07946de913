use Rattle.grid_extract.specs.Extraction.{drawing_of}
use Rattle.grid_extract.specs.Laws.Agreeing.{never_conflict}
use Rattle.grid_extract.specs.Laws.OnPieces.{is_drawing}
use Rattle.grid_extract.proofs.laws.no_bad_end_nor_conflict.Goals as goal

pub returns-clause-no_bad_end : goal.returns-clause-no_bad_end
returns-clause-no_bad_end s tech cells design grid bias at keeps grid_keeps bias_keeps refused =
    s.ends_are_nodes.ensures (drawing_of grid refused.pads refused.taps) tech at
    (is_drawing grid tech cells bias design.components refused.pads refused.taps keeps grid_keeps bias_keeps refused.stand.pads_are refused.stand.taps_are)
    refused.refused

pub returns-clause-no_conflict : goal.returns-clause-no_conflict
returns-clause-no_conflict s tech cells design grid bias node first second keeps refused =
    never_conflict grid tech bias refused.pads refused.taps keeps refused.stand.pads_are node first second refused.refused

use Rattle.one_network.specs.Laws.Whole.{not_refused}
use Rattle.one_macro_grid.proofs.Tapped.{Off, Loads, loads_one}
use Rattle.one_macro_grid.proofs.network.extracted_or_refused_over_blocks.Goals as goal

pub returns : goal.returns
returns s drawn tech cells design bias extracted error keep keeps is refused =
    not_refused (Off drawn cells design bias) (Loads drawn cells design bias) (loads_one drawn cells design bias keep keeps) drawn.grid tech cells design bias
    s.one_network_or_refusal.ensures.or_refused extracted error is refused

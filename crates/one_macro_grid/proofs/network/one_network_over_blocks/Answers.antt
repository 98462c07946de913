use Rattle.one_network.specs.Laws.Whole.{network_one}
use Rattle.one_macro_grid.proofs.Tapped.{Off, Loads, loads_one}
use Rattle.one_macro_grid.proofs.network.one_network_over_blocks.Goals as goal

pub returns : goal.returns
returns s drawn tech cells design bias a b keep keeps p q = network_one (Off drawn cells design bias) (Loads drawn cells design bias) (loads_one drawn cells design bias keep keeps) drawn.grid tech cells design bias
    s.one_network_or_refusal.ensures.one a b p q

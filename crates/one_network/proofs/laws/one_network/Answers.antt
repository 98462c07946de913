use Rattle.one_network.specs.Laws.Whole.{network_one}
use Rattle.one_network.proofs.Tapping.{Off, Loads, loads_one}
use Rattle.one_network.proofs.laws.one_network.Goals as goal

pub returns : goal.returns
returns s grid tech cells design bias a b keep keeps p q = network_one (Off grid cells design bias) (Loads grid cells design bias) (loads_one grid cells design bias keep keeps) grid tech cells design bias s.one_network_or_refusal.ensures.one a b p q

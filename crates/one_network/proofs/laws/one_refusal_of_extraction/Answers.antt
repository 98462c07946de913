use Rattle.one_network.specs.Laws.Whole.{refusal_one}
use Rattle.one_network.proofs.Tapping.{Off, Loads, loads_one}
use Rattle.one_network.proofs.laws.one_refusal_of_extraction.Goals as goal

pub returns : goal.returns
returns s grid tech cells design bias a b keep keeps p q some_a some_b = refusal_one (Off grid cells design bias) (Loads grid cells design bias) (loads_one grid cells design bias keep keeps) grid tech cells design bias a b p q some_a some_b

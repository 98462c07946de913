use Rattle.one_network.specs.Laws.Whole.{not_refused}
use Rattle.one_network.proofs.Tapping.{Off, Loads, loads_one}
use Rattle.one_network.proofs.laws.extracted_or_refused.Goals as goal

pub returns : goal.returns
returns s grid tech cells design bias extracted error keep keeps is refused =
    not_refused (Off grid cells design bias) (Loads grid cells design bias) (loads_one grid cells design bias keep keeps) grid tech cells design bias s.one_network_or_refusal.ensures.or_refused extracted error is refused

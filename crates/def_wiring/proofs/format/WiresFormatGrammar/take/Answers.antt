use Rattle.def_wiring.proofs.Taking.{took}
use Rattle.def_wiring.proofs.format.WiresFormatGrammar.take.Goals as goal

pub returns : goal.returns
returns c = took c.take.result _ _ (λ all units few h taken heard. all heard units h) c.take.ensures

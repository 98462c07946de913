use Rattle.def_wiring.proofs.Law.{regular}
use Rattle.def_wiring.proofs.format.WiresFormatGrammar.regular.Goals as goal

pub returns : goal.returns
returns c = regular c.texts_have_one_number.ensures

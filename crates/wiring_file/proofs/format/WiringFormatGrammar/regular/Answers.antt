use Rattle.wiring_file.proofs.Law.{regular}
use Rattle.wiring_file.proofs.format.WiringFormatGrammar.regular.Goals as goal

pub returns : goal.returns
returns c = regular c.texts_have_one_number.ensures

use Rattle.lef_tech.proofs.Law.{regular}
use Rattle.lef_tech.proofs.format.TechFormatGrammar.regular.Goals as goal

pub returns : goal.returns
returns c = regular c.texts_have_one_number.ensures

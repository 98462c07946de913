use Rattle.bias_file.proofs.Law.{regular}
use Rattle.bias_file.proofs.format.BiasFormatGrammar.regular.Goals as goal

pub returns : goal.returns
returns c = regular c.texts_have_one_number.ensures

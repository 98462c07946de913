use Rattle.macro_blocks.proofs.Law.{regular}
use Rattle.macro_blocks.proofs.format.BlocksFormatGrammar.regular.Goals as goal

pub returns : goal.returns
returns c = regular c.texts_have_one_number.ensures

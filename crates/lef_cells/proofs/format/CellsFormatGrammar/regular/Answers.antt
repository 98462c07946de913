use Rattle.lef_cells.proofs.Law.{regular}
use Rattle.lef_cells.proofs.format.CellsFormatGrammar.regular.Goals as goal

pub returns : goal.returns
returns c = regular c.texts_have_one_number.ensures

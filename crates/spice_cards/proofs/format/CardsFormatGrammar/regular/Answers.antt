use Rattle.spice_cards.proofs.Law.{regular}
use Rattle.spice_cards.proofs.format.CardsFormatGrammar.regular.Goals as goal

pub returns : goal.returns
returns c = regular c.texts_have_one_number.ensures

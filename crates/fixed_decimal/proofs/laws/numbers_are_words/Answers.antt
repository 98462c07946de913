use Rattle.fixed_decimal.proofs.TextLaws.{spice_visible}
use Rattle.fixed_decimal.proofs.laws.numbers_are_words.Goals as goal

pub returns-clause-no_white : goal.returns-clause-no_white
returns-clause-no_white c = spice_visible

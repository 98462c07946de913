use Rattle.script_options.proofs.One.{value_one}
use Rattle.script_options.proofs.laws.numbers_have_one_value.Goals as goal

pub returns : goal.returns
returns c = value_one c.texts_have_one_number.ensures

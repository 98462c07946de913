use Rattle.script_options.proofs.One.{refusal_one}
use Rattle.script_options.proofs.laws.values_have_one_refusal.Goals as goal

pub returns : goal.returns
returns c = refusal_one c.texts_have_one_number.ensures

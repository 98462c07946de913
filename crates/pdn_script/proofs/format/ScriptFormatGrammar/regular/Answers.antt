use Rattle.pdn_script.proofs.Law.{regular}
use Rattle.pdn_script.proofs.format.ScriptFormatGrammar.regular.Goals as goal

pub returns : goal.returns
returns c = regular c.values_have_one_refusal.ensures

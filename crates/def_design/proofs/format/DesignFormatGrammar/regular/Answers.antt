use Rattle.def_design.proofs.Law.{regular}
use Rattle.def_design.proofs.format.DesignFormatGrammar.regular.Goals as goal

pub returns : goal.returns
returns c = regular c.texts_have_one_number.ensures c.args.self.now.wiring_refused

use Rattle.text_lex.specs.declared.word.Mode.TheVariants.{Tcl}
use Rattle.reading.specs.Laws.{one-record}
use Rattle.pdn_script.specs.Format.{format}
use Rattle.pdn_script.specs.Kinds.{kinds}
use Rattle.pdn_script.specs.Record.{IsScript}
use Rattle.pdn_script.proofs.One.{one_script}
use Rattle.pdn_script.proofs.laws.texts_have_one_script.Goals as goal

pub returns : goal.returns
returns c = λ text a b. one-record kinds Tcl format IsScript (λ bytes x y. c.one_split.ensures.one Tcl bytes x y) c.texts_have_one_result.ensures.read c.texts_have_one_result.ensures.refused
    c.texts_have_one_result.ensures.not_both (one_script c.numbers_have_one_value.ensures) text a b

use Rattle.text_lex.specs.declared.word.Mode.TheVariants.{LefDef}
use Rattle.reading.specs.Laws.{one-record}
use Rattle.lef_tech.specs.Format.{format}
use Rattle.lef_tech.specs.Kinds.{kinds}
use Rattle.lef_tech.specs.Record.{IsTech}
use Rattle.lef_tech.proofs.One.{one_tech}
use Rattle.lef_tech.proofs.laws.texts_have_one_tech.Goals as goal

pub returns : goal.returns
returns c = λ text a b. one-record kinds LefDef format IsTech (λ bytes x y. c.one_split.ensures.one LefDef bytes x y) c.texts_have_one_result.ensures.read c.texts_have_one_result.ensures.refused
    c.texts_have_one_result.ensures.not_both (one_tech c.texts_have_one_number.ensures) text a b

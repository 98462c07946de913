use Rattle.text_lex.specs.declared.word.Mode.TheVariants.{LefDef}
use Rattle.reading.specs.Laws.{one-record}
use Rattle.lef_cells.specs.Format.{format, kinds}
use Rattle.lef_cells.specs.Record.{IsCells}
use Rattle.lef_cells.proofs.One.{one_cells}
use Rattle.lef_cells.proofs.laws.texts_have_one_record.Goals as goal

pub returns : goal.returns
returns c = λ text a b. one-record kinds LefDef format IsCells (λ bytes x y. c.one_split.ensures.one LefDef bytes x y) c.texts_have_one_result.ensures.read
    c.texts_have_one_result.ensures.refused c.texts_have_one_result.ensures.not_both (one_cells c.texts_have_one_number.ensures) text a b

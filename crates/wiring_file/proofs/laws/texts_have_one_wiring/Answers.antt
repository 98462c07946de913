use Rattle.text_lex.specs.declared.word.Mode.TheVariants.{LefDef}
use Rattle.reading.specs.Laws.{one-record}
use Rattle.wiring_file.specs.Format.{format, kinds}
use Rattle.wiring_file.specs.Record.{IsWiring}
use Rattle.wiring_file.proofs.Law.{one_wiring}
use Rattle.wiring_file.proofs.laws.texts_have_one_wiring.Goals as goal

pub returns : goal.returns
returns c =
    one-record kinds LefDef format IsWiring (c.one_split.ensures.one LefDef) c.texts_have_one_result.ensures.read c.texts_have_one_result.ensures.refused c.texts_have_one_result.ensures.not_both
    (one_wiring c.texts_have_one_number.ensures)

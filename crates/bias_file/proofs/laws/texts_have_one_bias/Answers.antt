use Rattle.text_lex.specs.declared.word.Mode.TheVariants.{Lines}
use Rattle.reading.specs.Laws.{one-record}
use Rattle.bias_file.specs.Format.{format, kinds}
use Rattle.bias_file.specs.Record.{IsBias}
use Rattle.bias_file.proofs.One.{one_bias}
use Rattle.bias_file.proofs.laws.texts_have_one_bias.Goals as goal

pub returns : goal.returns
returns c = λ text a b. one-record kinds Lines format IsBias (λ bytes x y. c.one_split.ensures.one Lines bytes x y) c.texts_have_one_result.ensures.read c.texts_have_one_result.ensures.refused
    c.texts_have_one_result.ensures.not_both (one_bias c.texts_have_one_number.ensures) text a b

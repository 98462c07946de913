use Rattle.text_lex.specs.declared.word.Mode.TheVariants.{Lines}
use Rattle.reading.specs.Laws.{one-record}
use Rattle.wave_file.specs.Format.{format, kinds}
use Rattle.wave_file.specs.Record.{IsWaves}
use Rattle.wave_file.proofs.One.{one_waves}
use Rattle.wave_file.proofs.laws.texts_have_one_waves.Goals as goal

pub returns : goal.returns
returns c = λ text a b. let names = c.args.names.now in
    one-record kinds Lines (format names) (IsWaves names) (λ bytes x y. c.one_split.ensures.one Lines bytes x y) c.texts_have_one_result.ensures.read c.texts_have_one_result.ensures.refused
    c.texts_have_one_result.ensures.not_both (one_waves c.texts_have_one_number.ensures names) text a b

use Rattle.text_lex.specs.declared.word.Mode.TheVariants.{Lines}
use Rattle.reading.specs.Laws.{one-record}
use Rattle.certificate_file.specs.Format.{format, kinds}
use Rattle.certificate_file.specs.Record.{IsLists}
use Rattle.certificate_file.proofs.Law.{one_lists}
use Rattle.certificate_file.proofs.laws.texts_have_one_certificate.Goals as goal

pub returns : goal.returns
returns c = λ text a b. let names = c.args.names.now in
    one-record kinds Lines (format names) (IsLists names) (λ bytes x y. c.one_split.ensures.one Lines bytes x y) c.texts_have_one_result.ensures.read c.texts_have_one_result.ensures.refused
    c.texts_have_one_result.ensures.not_both (one_lists c.texts_have_one_answer.ensures.integer names) text a b

use Rattle.written_words.specs.Laws.Digits.{Laws, number_is, number_word}
use Rattle.written_words.proofs.laws.written_numbers_are_read.Goals as goal

pub returns : goal.returns
returns c =
    let laws : Laws = record { answer = c.texts_have_one_answer.ensures.integer; signs = c.values_keep_signs.ensures.integer } in
    record { value = λ sign v limit has near few. number_is laws sign v limit has near few; word = λ v few. number_word v few }

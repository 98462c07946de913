use Rattle.number_place.proofs.Places.{number_once}
use Rattle.number_place.proofs.laws.texts_have_one_number.Goals as goal

pub returns : goal.returns
returns c = λ place text r s. number_once place text r s
    (λ places limit a b. c.texts_have_one_answer.ensures.decimal places limit text a b) (λ places limit a b. c.texts_have_one_answer.ensures.spice places limit text a b)
    (λ places limit a b. c.texts_have_one_answer.ensures.integer places limit text a b)

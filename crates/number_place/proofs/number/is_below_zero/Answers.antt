use Rattle.number_place.proofs.Places.{below_by}
use Rattle.number_place.proofs.number.is_below_zero.Goals as goal

pub returns : goal.returns
returns c = λ places limit. below_by c.args.form c.args.text.now c.is_negative.result places limit c.args.answer
    (c.is_negative.ensures.decimal places limit) (c.is_negative.ensures.spice places limit) (c.is_negative.ensures.integer places limit)

use Rattle.number_place.proofs.Places.{has_sign}
use Rattle.number_place.proofs.laws.values_fit_their_places.Goals as goal

pub returns-clause-sign : goal.returns-clause-sign
returns-clause-sign c = λ place text value h. has_sign place text value
    (λ places limit v. c.values_keep_signs.ensures.decimal places limit text v) (λ places limit v. c.values_keep_signs.ensures.spice places limit text v)
    (λ places limit v. c.values_keep_signs.ensures.integer places limit text v) h

use Rattle.std.proofs.Common.{pos, Ok, sym, subst, to_z, of_z}
use Rattle.std.proofs.Math.IntN.{nat_abs}
use Rattle.std.specs.Int.{w128}
use Rattle.number_place.specs.Place.{IsNumberAt}
use Rattle.command_words.specs.Words.{IsTime, seconds}
use Rattle.command_words.proofs.Commands.{no_time, is_positive, positive_fits, positive_same}
use Rattle.command_words.proofs.number.time_of.Goals as goal

pub overflow_cast-result : goal.overflow_cast-result
overflow_cast-result c =
    let is = subst (λ z. IsNumberAt seconds c.as_bytes.result.now z) c.in-Ok.is c.number_at.ensures.answer in
    positive_fits c.in-Ok.time (is_positive c.values_fit_their_places.ensures.limit c.values_fit_their_places.ensures.sign c.as_bytes.result.now c.in-Ok.time is)

pub returns-in-Ok-clause-some : goal.returns-in-Ok-clause-some
returns-in-Ok-clause-some c =
    let is = subst (λ z. IsNumberAt seconds c.as_bytes.result.now z) c.in-Ok.is c.number_at.ensures.answer in
    let same = positive_same c.in-Ok.time (is_positive c.values_fit_their_places.ensures.limit c.values_fit_their_places.ensures.sign c.as_bytes.result.now c.in-Ok.time is) in
    subst (λ z. IsNumberAt seconds z (Ok (pos (nat_abs (to_z w128 (of_z w128 c.in-Ok.time)))))) c.as_bytes.ensures.value (subst (λ z. IsNumberAt seconds c.as_bytes.result.now (Ok z)) (sym same) is)

pub returns-in-Err-clause-none : goal.returns-in-Err-clause-none
returns-in-Err-clause-none c = λ time h.
    no_time c.as_bytes.result.now c.in-Err.field-0 c.number_at.result time c.number_at.ensures.only c.in-Err.is (subst (λ z. IsTime z time) (sym c.as_bytes.ensures.value) h)

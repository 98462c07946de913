use Rattle.std.proofs.Common.{◌≡◌, sym}
use Rattle.fixed_decimal.specs.inside.Kept.{AnswersNumber}
use Rattle.fixed_decimal.specs.Number.{Number, number_of}
use Rattle.fixed_decimal.specs.Spice.{IsSpice, scaled}
use Rattle.fixed_decimal.proofs.Settled.{settled_answer, no_spice, the_spice}
use Rattle.fixed_decimal.proofs.reader.read_scaled_in_full.Goals as goal
use Rattle.fixed_decimal.proofs.reader.read_scaled_in_full.Goals.{After-rounded}

pub returns-in_default-scale_of : goal.returns-in_default-scale_of
returns-in_default-scale_of c = no_spice c.args.text.now c.in-Some.number c.in-Some.letters.now c.in-Some.ensures.some c.in_default-scale_of.ensures.none

module _ (c : After-rounded) where
  the_number : Number
  the_number = scaled (number_of c.in-Some.ensures.some.spelling) c.in-Some-scale_of.scale

  is_number : IsSpice c.args.text.now the_number
  unfolding the_number
  is_number = the_spice c.args.text.now c.in-Some.number c.in-Some.letters.now c.in-Some.ensures.some c.in-Some-scale_of.scale c.in-Some-scale_of.ensures.text c.in-Some-scale_of.ensures.value

  answered : AnswersNumber the_number c.args.places c.args.limit c.rounded.result
  unfolding the_number
  answered = c.rounded.ensures (number_of c.in-Some.ensures.some.spelling) (sym c.in-Some.ensures.some.negative) c.in-Some.ensures.some.describes

pub returns : goal.returns
returns c = settled_answer IsSpice c.args.text.now c.args.places c.args.limit c.rounded.result (the_number c) (is_number c) (answered c)

use Rattle.std.proofs.Common.{ℕ, sym, subst}
use Rattle.fixed_decimal.specs.Value.{IsAnswer}
use Rattle.number_place.specs.declared.place.NumberForm.TheVariants.{Integer}
use Rattle.number_place.specs.Place.{is_of}
use Rattle.number_place.proofs.number.value_of.Goals as goal

pub returns-in-Decimal-clause-answer : goal.returns-in-Decimal-clause-answer
returns-in-Decimal-clause-answer c =
    subst (λ z. IsAnswer (is_of z) c.args.place.places c.args.place.limit c.args.text.now c.read.result) (sym c.in-Decimal.is) c.read.ensures.answer

pub returns-in-Scaled-clause-answer : goal.returns-in-Scaled-clause-answer
returns-in-Scaled-clause-answer c =
    subst (λ z. IsAnswer (is_of z) c.args.place.places c.args.place.limit c.args.text.now c.read_spice.result) (sym c.in-Scaled.is) c.read_spice.ensures.answer

pub returns-in-Integer-clause-answer : goal.returns-in-Integer-clause-answer
returns-in-Integer-clause-answer c =
    subst (λ z. IsAnswer (is_of z) c.args.place.places c.args.place.limit c.args.text.now c.read_integer.result) (sym c.in-Integer.is)
    (subst (λ (z : ℕ). IsAnswer (is_of Integer) z c.args.place.limit c.args.text.now c.read_integer.result) (sym (c.requires.whole c.in-Integer.is)) c.read_integer.ensures.answer)

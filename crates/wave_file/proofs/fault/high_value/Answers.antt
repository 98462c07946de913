use Rattle.std.proofs.Common.{◌≤ℤ◌, ◌<ℤ◌, Ok, sym, ◌∙◌, ap, subst, arith, to_z, of_z}
use Rattle.std.specs.Int.{w64}
use Rattle.std.proofs.lemmas.Int.{ints}
use Rattle.wave_file.specs.declared.value.Value.TheVariants.{Amps, Nothing}
use Rattle.reading.specs.Word.{token}
use Rattle.wave_file.specs.Number.{amperes}
use Rattle.wave_file.specs.Fault.{RangeFault}
use Rattle.wave_file.specs.Rule.{is_number}
use Rattle.wave_file.proofs.Numbers.{range_none, range_falls, range_refused, range_rises, kept_64}
use Rattle.number_place.specs.Place.{IsNumberAt}
use Rattle.wave_file.proofs.fault.high_value.Goals as goal

pub returns-then-not-is_number : goal.returns-then-not-is_number
returns-then-not-is_number c = λ low same is. range_none low (token c.args.high.now) Nothing (ap is_number (sym same) ∙ sym c.is_number.ensures ∙ c.if-not-is_number.true)

pub returns-then-greatest-least : goal.returns-then-greatest-least
returns-then-greatest-least c = λ low same is.
    let there = ap is_number (sym same) ∙ sym c.is_number.ensures ∙ c.if-not-is_number.false in
    let is_high = subst (λ z. IsNumberAt amperes c.args.high.now.text.now z) c.in-Ok.is c.small_number_at.ensures.answer in
    let high = kept_64 c.in-Ok.greatest is_high.1.2.within in
    let low_kept = kept_64 c.args.least is.1.2.within in
    let lt : c.in-Ok.greatest <ℤ c.args.least = omega (arith, ints, high, low_kept, c.if-greatest-least.true) in
    range_falls low (token c.args.high.now) c.args.least c.in-Ok.greatest there is is_high lt

pub returns-else-greatest-least : goal.returns-else-greatest-least
returns-else-greatest-least c = λ low same is.
    let is_high = subst (λ z. IsNumberAt amperes c.args.high.now.text.now z) c.in-Ok.is c.small_number_at.ensures.answer in
    let high = kept_64 c.in-Ok.greatest is_high.1.2.within in
    let low_kept = kept_64 c.args.least is.1.2.within in
    let le : c.args.least ≤ℤ c.in-Ok.greatest = omega (arith, ints, high, low_kept, c.if-greatest-least.false) in
    range_rises c.texts_have_one_number.ensures low (token c.args.high.now) c.args.least (Amps (to_z w64 (of_z w64 c.in-Ok.greatest))) is
    (subst (λ z. IsNumberAt amperes c.args.high.now.text.now (Ok z)) (sym high) is_high) (subst (λ z. c.args.least ≤ℤ z) (sym high) le)

pub returns-in-Err : goal.returns-in-Err
returns-in-Err c = λ low same is.
    let there = ap is_number (sym same) ∙ sym c.is_number.ensures ∙ c.if-not-is_number.false in
    let answer = subst (λ z. IsNumberAt amperes c.args.high.now.text.now z) c.in-Err.is c.small_number_at.ensures.answer in
    subst (λ z. RangeFault low (token c.args.high.now) z) (sym c.refused_kind.ensures) (range_refused low (token c.args.high.now) c.in-Err.refused there answer)

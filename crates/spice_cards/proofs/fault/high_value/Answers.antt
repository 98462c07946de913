use Rattle.std.proofs.Common.{sym, ◌∙◌, ap, subst, to_z, of_z}
use Rattle.std.specs.Int.{w64}
use Rattle.std.specs.Int.Signed.{lt_z}
use Rattle.number_place.specs.Place.{IsNumberAt}
use Rattle.spice_cards.specs.Fault.{EndFault, high_by}
use Rattle.spice_cards.specs.Number.{amperes}
use Rattle.spice_cards.proofs.Ranges.{kept_64}
use Rattle.spice_cards.proofs.Values.{high_found, high_below, high_refused}
use Rattle.spice_cards.proofs.fault.high_value.Goals as goal

pub returns-then-high-value : goal.returns-then-high-value
returns-then-high-value c = λ before is.
    let text = c.args.text.now in
    let is_high = subst (λ z. IsNumberAt amperes text z) c.in-Ok.is c.small_number_at.ensures.answer in
    let value = kept_64 c.args.value is.1.2.within in
    let high = kept_64 c.in-Ok.high is_high.1.2.within in
    high_below before text c.args.value c.in-Ok.high (to_z w64 (of_z w64 c.in-Ok.high)) is is_high high (ap (λ z. lt_z (to_z w64 (of_z w64 c.in-Ok.high)) z) (sym value) ∙ c.if-high-value.true)

pub returns-else-high-value : goal.returns-else-high-value
returns-else-high-value c = λ before is.
    let text = c.args.text.now in
    let is_high = subst (λ z. IsNumberAt amperes text z) c.in-Ok.is c.small_number_at.ensures.answer in
    let value = kept_64 c.args.value is.1.2.within in
    let high = kept_64 c.in-Ok.high is_high.1.2.within in
    high_found c.texts_have_one_number.ensures before text c.args.value c.in-Ok.high (to_z w64 (of_z w64 c.in-Ok.high)) is is_high high (ap (λ z. lt_z (to_z w64 (of_z w64 c.in-Ok.high)) z) (sym value) ∙ c.if-high-value.false)

pub returns-in-Err : goal.returns-in-Err
returns-in-Err c = λ before is.
    let text = c.args.text.now in
    let answer = subst (λ z. IsNumberAt amperes text z) c.in-Err.is c.small_number_at.ensures.answer in
    subst (λ z. EndFault high_by before text z) (sym c.refused_kind.ensures) (high_refused before text c.args.value c.in-Err.refused is answer)

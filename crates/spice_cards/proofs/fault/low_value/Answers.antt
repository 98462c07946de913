use Rattle.std.proofs.Common.{sym, ◌∙◌, ap, subst, to_z, of_z}
use Rattle.std.specs.Int.{w64}
use Rattle.std.specs.Int.Signed.{lt_z}
use Rattle.number_place.specs.Place.{IsNumberAt}
use Rattle.spice_cards.specs.Fault.{EndFault, low_by}
use Rattle.spice_cards.specs.Number.{amperes}
use Rattle.spice_cards.proofs.Ranges.{kept_64}
use Rattle.spice_cards.proofs.Values.{low_found, low_above, low_refused}
use Rattle.spice_cards.proofs.fault.low_value.Goals as goal

pub returns-then-value-low : goal.returns-then-value-low
returns-then-value-low c = λ before is.
    let text = c.args.text.now in
    let is_low = subst (λ z. IsNumberAt amperes text z) c.in-Ok.is c.small_number_at.ensures.answer in
    let value = kept_64 c.args.value is.1.2.within in
    let low = kept_64 c.in-Ok.low is_low.1.2.within in
    low_above before text c.args.value c.in-Ok.low (to_z w64 (of_z w64 c.in-Ok.low)) is is_low low (ap (λ z. lt_z z (to_z w64 (of_z w64 c.in-Ok.low))) (sym value) ∙ c.if-value-low.true)

pub returns-else-value-low : goal.returns-else-value-low
returns-else-value-low c = λ before is.
    let text = c.args.text.now in
    let is_low = subst (λ z. IsNumberAt amperes text z) c.in-Ok.is c.small_number_at.ensures.answer in
    let value = kept_64 c.args.value is.1.2.within in
    let low = kept_64 c.in-Ok.low is_low.1.2.within in
    low_found c.texts_have_one_number.ensures before text c.args.value c.in-Ok.low (to_z w64 (of_z w64 c.in-Ok.low)) is is_low low (ap (λ z. lt_z z (to_z w64 (of_z w64 c.in-Ok.low))) (sym value) ∙ c.if-value-low.false)

pub returns-in-Err : goal.returns-in-Err
returns-in-Err c = λ before is.
    let text = c.args.text.now in
    let answer = subst (λ z. IsNumberAt amperes text z) c.in-Err.is c.small_number_at.ensures.answer in
    subst (λ z. EndFault low_by before text z) (sym c.refused_kind.ensures) (low_refused before text c.args.value c.in-Err.refused is answer)

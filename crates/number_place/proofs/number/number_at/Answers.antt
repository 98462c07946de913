use Rattle.std.proofs.Common.{◌≡◌, true, false, sym, ◌∙◌, subst}
use Rattle.number_place.specs.Place.{IsNumberAt, HasOtherSign}
use Rattle.number_place.proofs.Places.{sign_told, number_told, only_other, only_told}
use Rattle.number_place.proofs.number.number_at.Goals as goal

pub returns-then-is_other_sign : goal.returns-then-is_other_sign
returns-then-is_other_sign c =
    let tells = sign_told c.args.place c.args.text.now c.is_below_zero-below.result c.is_zero.result c.value_of-answer.result c.value_of-answer.ensures.answer c.value_of-answer.ensures.only
    (c.is_below_zero-below.ensures c.args.place.places c.args.place.limit) c.is_zero.ensures in
    let other : HasOtherSign c.args.place c.args.text.now = tells.0 (sym c.is_other_sign.ensures ∙ c.if-is_other_sign.true) in
    record { answer = other; only = only_other c.args.place c.args.text.now other }

pub returns : goal.returns
returns c =
    let tells = sign_told c.args.place c.args.text.now c.is_below_zero-below.result c.is_zero.result c.value_of-answer.result c.value_of-answer.ensures.answer c.value_of-answer.ensures.only
    (c.is_below_zero-below.ensures c.args.place.places c.args.place.limit) c.is_zero.ensures in
    let fine : HasOtherSign c.args.place c.args.text.now → ⊥ =
    λ h. (let no : true ≡ false = sym (tells.1 h) ∙ sym c.is_other_sign.ensures ∙ c.if-is_other_sign.false in cc) in
    record {
      answer = subst (λ z. IsNumberAt c.args.place c.args.text.now z) (sym c.told.ensures) (number_told c.args.place c.args.text.now c.value_of-answer.result fine c.value_of-answer.ensures.answer);
      only = λ other k. only_told c.args.place c.args.text.now c.value_of-answer.result fine c.value_of-answer.ensures.only other k ∙ sym c.told.ensures;
    }

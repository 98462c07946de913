use Rattle.std.proofs.Common.{◌≡◌, true, false, IfOk, inl, inr, refl, sym, ◌∙◌, subst}
use Rattle.lef_tech.specs.declared.value.Value.{Value}
use Rattle.lef_tech.specs.Number.{place_of}
use Rattle.lef_tech.specs.inside.Value.{answer_of}
use Rattle.lef_tech.proofs.Numbers.{IsOnly, none_refused, below_told, no_low}
use Rattle.number_place.specs.Place.{IsNumberAt}
use Rattle.lef_tech.proofs.fault.point_value.Goals as goal

pub returns-then-is_at_most : goal.returns-then-is_at_most
returns-then-is_at_most c =
    let q = c.args.quantity in
    let is_a = subst (λ z. IsNumberAt (place_of q) c.args.before.now (answer_of z)) c.in-Ok-Ok.is-0 c.read_number.ensures.answer in
    let is_b = subst (λ z. IsNumberAt (place_of q) c.args.point.now (answer_of z)) c.in-Ok-Ok.is-1 c.read_number-2.ensures.answer in
    inr (refl, (c.in-Ok-Ok.low.number, c.in-Ok-Ok.value.number, is_a, is_b, c.is_at_most.ensures.0 c.if-is_at_most.true))

pub returns-in-Err-Ok : goal.returns-in-Err-Ok
returns-in-Err-Ok c =
    let q = c.args.quantity in
    let only_a = subst (λ z. IsOnly (place_of q) c.args.before.now (answer_of z)) c.in-Err-Ok.is-0 c.read_number.ensures.only in
    let only_b = subst (λ z. IsOnly (place_of q) c.args.point.now (answer_of z)) c.in-Err-Ok.is-1 c.read_number-2.ensures.only in (
      (λ kind h. elim h [
        | inl f ↦ none_refused q c.args.point.now c.in-Err-Ok.value.number only_b kind f
        | inr g ↦ no_low q c.args.before.now c.args.point.now _ only_a g.1
      ]),
      (
        subst (λ z. IfOk z (λ (value : Value). value.sort ≡ c.args.sort)) c.in-Err-Ok.is-1 c.read_number-2.ensures.sort,
        subst (λ z. IsNumberAt (place_of q) c.args.point.now (answer_of z)) c.in-Err-Ok.is-1 c.read_number-2.ensures.answer,
      ),
    )

pub returns-else-is_at_most : goal.returns-else-is_at_most
returns-else-is_at_most c =
    let q = c.args.quantity in
    let is_a = subst (λ z. IsNumberAt (place_of q) c.args.before.now (answer_of z)) c.in-Ok-Ok.is-0 c.read_number.ensures.answer in
    let is_b = subst (λ z. IsNumberAt (place_of q) c.args.point.now (answer_of z)) c.in-Ok-Ok.is-1 c.read_number-2.ensures.answer in
    let only_a = subst (λ z. IsOnly (place_of q) c.args.before.now (answer_of z)) c.in-Ok-Ok.is-0 c.read_number.ensures.only in
    let only_b = subst (λ z. IsOnly (place_of q) c.args.point.now (answer_of z)) c.in-Ok-Ok.is-1 c.read_number-2.ensures.only in
    let told = below_told q c.args.before.now c.args.point.now c.in-Ok-Ok.low.number c.in-Ok-Ok.value.number c.is_at_most.result is_a only_a is_b only_b c.is_at_most.ensures in (
      (λ kind h. elim h [
        | inl f ↦ none_refused q c.args.point.now c.in-Ok-Ok.value.number only_b kind f
        | inr g ↦ let no : true ≡ false = sym (told.1 g.1) ∙ c.if-is_at_most.false in cc
      ]),
      (
        subst (λ z. IfOk z (λ (value : Value). value.sort ≡ c.args.sort)) c.in-Ok-Ok.is-1 c.read_number-2.ensures.sort,
        is_b,
      ),
    )

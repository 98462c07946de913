use Rattle.std.proofs.Common.{inl, inr, refl, subst}
use Rattle.lef_tech.specs.Number.{place_of}
use Rattle.lef_tech.specs.inside.Value.{answer_of}
use Rattle.lef_tech.proofs.Numbers.{IsOnly, none_refused}
use Rattle.number_place.specs.Place.{IsNumberAt}
use Rattle.lef_tech.proofs.fault.entry_value.Goals as goal

pub returns-then-left-eq0 : goal.returns-then-left-eq0
returns-then-left-eq0 c =
    inr (
      refl,
      c.if-left-eq0.true,
      c.in-Ok.value.number,
      subst (λ z. IsNumberAt (place_of c.args.quantity) c.args.text.now (answer_of z)) c.in-Ok.is c.read_number.ensures.answer,
    )

pub returns-else-left-eq0 : goal.returns-else-left-eq0
returns-else-left-eq0 c = (
  (λ kind h. elim h [
    | inl f ↦ none_refused c.args.quantity c.args.text.now c.in-Ok.value.number (subst (λ z. IsOnly (place_of c.args.quantity) c.args.text.now (answer_of z)) c.in-Ok.is c.read_number.ensures.only) kind f
    | inr g ↦ absurd (c.if-left-eq0.false g.1)
  ]),
  (c.in-Ok.ensures.sort, subst (λ z. IsNumberAt (place_of c.args.quantity) c.args.text.now (answer_of z)) c.in-Ok.is c.read_number.ensures.answer),
)

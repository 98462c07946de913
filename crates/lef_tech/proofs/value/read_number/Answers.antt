use Rattle.std.proofs.Common.{Ok, sym, ◌∙◌, ap, subst}
use Rattle.lef_tech.specs.Number.{place_of}
use Rattle.lef_tech.proofs.Numbers.{kept}
use Rattle.number_place.specs.Place.{IsNumberAt}
use Rattle.lef_tech.proofs.value.read_number.Goals as goal

pub returns-in-Ok-clause-answer : goal.returns-in-Ok-clause-answer
returns-in-Ok-clause-answer c =
    let q = c.args.quantity in
    let text = c.args.text.now in
    let v = c.in-Ok.number in
    let is = subst (λ z. IsNumberAt (place_of q) text z) c.in-Ok.is (subst (λ z. IsNumberAt z text c.small_number_at.result) c.place_of.ensures.is c.small_number_at.ensures.answer) in
    subst (λ z. IsNumberAt (place_of q) text (Ok z)) (sym (kept q text v is)) is

pub returns-in-Ok-clause-only : goal.returns-in-Ok-clause-only
returns-in-Ok-clause-only c = λ other k.
    let q = c.args.quantity in
    let text = c.args.text.now in
    let v = c.in-Ok.number in
    let is = subst (λ z. IsNumberAt (place_of q) text z) c.in-Ok.is (subst (λ z. IsNumberAt z text c.small_number_at.result) c.place_of.ensures.is c.small_number_at.ensures.answer) in
    c.small_number_at.ensures.only other (subst (λ z. IsNumberAt z text other) (sym c.place_of.ensures.is) k) ∙ c.in-Ok.is ∙ ap Ok (sym (kept q text v is))

pub returns-in-Err-clause-answer : goal.returns-in-Err-clause-answer
returns-in-Err-clause-answer c =
    subst (λ z. IsNumberAt (place_of c.args.quantity) c.args.text.now z) c.in-Err.is
    (subst (λ z. IsNumberAt z c.args.text.now c.small_number_at.result) c.place_of.ensures.is c.small_number_at.ensures.answer)

pub returns-in-Err-clause-only : goal.returns-in-Err-clause-only
returns-in-Err-clause-only c = λ other k.
    c.small_number_at.ensures.only other (subst (λ z. IsNumberAt z c.args.text.now other) (sym c.place_of.ensures.is) k) ∙ c.in-Err.is

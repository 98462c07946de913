use Rattle.std.proofs.Common.{◌≡◌, ◌↔◌, ◌∙◌, sym, subst, Result, Ok, Err, ℕ}
use Rattle.number_place.specs.declared.place.Refused.{Refused}
use Rattle.number_place.specs.Place.{IsNumberAt}
use Rattle.script_options.specs.Number.{RefusesNumber}
use Rattle.script_options.proofs.One.{number_read}
use Rattle.script_options.proofs.Refusals.{IsOnly, none_refused, one_refused}
use Rattle.script_options.proofs.number.number_told.Goals as goal

pub returns-in-Ok-clause-refused : goal.returns-in-Ok-clause-refused
returns-in-Ok-clause-refused c = none_refused c.args.quantity c.args.text.now c.in-Ok.value _ (sym c.is_mark.ensures ∙ c.if-is_mark.false)
    (subst (λ z. IsOnly z c.args.text.now (Ok c.in-Ok.value)) c.place_of.ensures (subst (λ z. IsOnly c.place_of.result c.args.text.now z) c.in-Ok.is c.small_number_at.ensures.only))

pub returns-in-Ok-clause-is : goal.returns-in-Ok-clause-is
returns-in-Ok-clause-is c = number_read c.values_fit_their_places.ensures.limit c.values_fit_their_places.ensures.sign c.args.quantity c.args.text.now c.in-Ok.value c.unsigned_abs.result
    (subst (λ z. IsNumberAt z c.args.text.now (Ok c.in-Ok.value)) c.place_of.ensures (subst (λ z. IsNumberAt c.place_of.result c.args.text.now z) c.in-Ok.is c.small_number_at.ensures.answer))
    c.unsigned_abs.ensures.value

pub returns-in-Err-clause-refused : goal.returns-in-Err-clause-refused
returns-in-Err-clause-refused c =
    λ refused. subst (λ z. (◌≡◌ {A = Result ℕ Refused} (Err z) (Err refused)) ↔ RefusesNumber c.args.quantity c.args.text.now refused) (sym c.refused_as.ensures)
    (one_refused c.args.quantity c.args.text.now c.in-Err.refused (sym c.is_mark.ensures ∙ c.if-is_mark.false)
    (subst (λ z. IsNumberAt z c.args.text.now (Err c.in-Err.refused)) c.place_of.ensures (subst (λ z. IsNumberAt c.place_of.result c.args.text.now z) c.in-Err.is c.small_number_at.ensures.answer))
    (subst (λ z. IsOnly z c.args.text.now (Err c.in-Err.refused)) c.place_of.ensures (subst (λ z. IsOnly c.place_of.result c.args.text.now z) c.in-Err.is c.small_number_at.ensures.only)) refused)

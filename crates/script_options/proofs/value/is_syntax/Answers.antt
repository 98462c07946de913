use Rattle.std.proofs.Common.{◌≡◌, ◌↔◌, Option, Some, subst}
use Rattle.number_place.specs.declared.place.Refused.{Refused}
use Rattle.script_options.specs.Number.{RefusesNumber}
use Rattle.script_options.proofs.Refusals.{told_form, told_none}
use Rattle.script_options.proofs.value.is_syntax.Goals as goal

pub returns-in-Some : goal.returns-in-Some
returns-in-Some c = told_form (RefusesNumber c.args.quantity c.args.text.now) c.in-Some.refused c.is_form.result
    (subst (λ (z : Option Refused). (other : Refused) → (z ≡ Some other) ↔ RefusesNumber c.args.quantity c.args.text.now other) c.in-Some.is c.number_refused.ensures.is) c.is_form.ensures

pub returns-in-None : goal.returns-in-None
returns-in-None c = told_none (RefusesNumber c.args.quantity c.args.text.now)
    (subst (λ (z : Option Refused). (other : Refused) → (z ≡ Some other) ↔ RefusesNumber c.args.quantity c.args.text.now other) c.in-None.is c.number_refused.ensures.is)

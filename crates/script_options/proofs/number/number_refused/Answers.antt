use Rattle.std.proofs.Common.{◌≡◌, ◌↔◌, ℕ, Result, Ok, Err, IfOk, subst}
use Rattle.number_place.specs.declared.place.Refused.{Refused}
use Rattle.script_options.specs.Number.{RefusesNumber, IsNumberIn}
use Rattle.script_options.proofs.Refusals.{as_none, as_some}
use Rattle.script_options.proofs.number.number_refused.Goals as goal

pub returns-in-Ok-clause-is : goal.returns-in-Ok-clause-is
returns-in-Ok-clause-is c = as_none (RefusesNumber c.args.quantity c.args.text.now) c.in-Ok.field-0
    (subst (λ (z : Result ℕ Refused). (other : Refused) → (z ≡ Err other) ↔ RefusesNumber c.args.quantity c.args.text.now other) c.in-Ok.is c.number_told.ensures.refused)

pub returns-in-Ok-clause-fine : goal.returns-in-Ok-clause-fine
returns-in-Ok-clause-fine c = (c.in-Ok.field-0, subst (λ (z : Result ℕ Refused). IfOk z (IsNumberIn c.args.quantity c.args.text.now)) c.in-Ok.is c.number_told.ensures.is)

pub returns-in-Err-clause-is : goal.returns-in-Err-clause-is
returns-in-Err-clause-is c = as_some (RefusesNumber c.args.quantity c.args.text.now) c.in-Err.refused
    (subst (λ (z : Result ℕ Refused). (other : Refused) → (z ≡ Err other) ↔ RefusesNumber c.args.quantity c.args.text.now other) c.in-Err.is c.number_told.ensures.refused)

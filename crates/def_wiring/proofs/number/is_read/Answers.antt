use Rattle.std.proofs.Common.{◌≡◌, true, false, Ok, refl, sym, ◌∙◌}
use Rattle.def_wiring.proofs.Numbers.{no_error}
use Rattle.def_wiring.proofs.number.is_read.Goals as goal

pub returns-in-Ok : goal.returns-in-Ok
returns-in-Ok c = (λ t. (c.in-Ok.field-0, c.in-Ok.ensures.answer), λ h. refl)

pub returns-in-Err : goal.returns-in-Err
returns-in-Err c = (
  λ t. absurd (let f : false ≡ true = t in cc),
  λ h. absurd (no_error _ h.0 (sym (c.read_number.ensures.only (Ok h.0) h.1 ∙ c.in-Err.is))),
)

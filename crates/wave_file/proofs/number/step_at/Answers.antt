use Rattle.std.proofs.Common.{pos, Ok, sym, ◌∙◌}
use Rattle.wave_file.proofs.Numbers.{no_error}
use Rattle.wave_file.proofs.number.step_at.Goals as goal

pub returns-in-Err-clause-none : goal.returns-in-Err-clause-none
returns-in-Err-clause-none c = λ k h. no_error c.in-Err.field-0 (pos k) (sym (c.number_at.ensures.only (Ok (pos k)) h ∙ c.in-Err.is))

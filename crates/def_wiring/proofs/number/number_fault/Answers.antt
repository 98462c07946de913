use Rattle.std.proofs.Common.{Err, ◌∙◌}
use Rattle.def_wiring.proofs.Numbers.{no_error}
use Rattle.def_wiring.proofs.number.number_fault.Goals as goal

pub returns-in-Ok : goal.returns-in-Ok
returns-in-Ok c = λ kind h. no_error h.0 _ (c.read_number.ensures.only (Err h.0) h.1 ∙ c.in-Ok.is)

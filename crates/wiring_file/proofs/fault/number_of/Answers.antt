use Rattle.std.proofs.Common.{sym, Err}
use Rattle.wiring_file.proofs.Heard.{kept_text}
use Rattle.wiring_file.proofs.Numbers.{not_both}
use Rattle.wiring_file.proofs.fault.number_of.Goals as goal

pub returns-in-Ok : goal.returns-in-Ok
returns-in-Ok c = (λ kind h. not_both _ h.0 (sym (c.in-Ok.ensures.only (Err h.0) h.1)), kept_text c.args.quantity c.args.text.now c.in-Ok.value c.in-Ok.ensures.answer)

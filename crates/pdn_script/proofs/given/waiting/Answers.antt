use Rattle.std.proofs.Common.{sym, ◌∙◌}
use Rattle.pdn_script.proofs.Hearing.{last_said}
use Rattle.pdn_script.proofs.given.waiting.Goals as goal

pub returns-in-Some : goal.returns-in-Some
returns-in-Some c = c.waits.ensures ∙ sym (last_said c.args.words.now c.in-Some.field-0-1.now c.in-Some.last.now c.in-Some.ensures.cases.0)

use Rattle.std.proofs.Common.{subst}
use Rattle.macro_blocks.specs.inside.Held.{IsBad}
use Rattle.macro_blocks.proofs.Numbers.{noted_bad}
use Rattle.reading.specs.Word.{heard_token}
use Rattle.macro_blocks.proofs.number.bad_after.Goals as goal

pub returns-in-Some : goal.returns-in-Some
returns-in-Some c = λ place numbers h.
    noted_bad numbers (heard_token c.args.word.now) c.in-Some.bad (subst (λ z. IsBad numbers z) c.in-Some.is h)

pub returns-in-None : goal.returns-in-None
returns-in-None c = λ place numbers h. c.first_bad.ensures place numbers (subst (λ z. IsBad numbers z) c.in-None.is h)

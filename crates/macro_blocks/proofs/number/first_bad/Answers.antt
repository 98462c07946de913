use Rattle.std.proofs.Common.{refl, subst}
use Rattle.macro_blocks.specs.inside.Value.{SaysPlace}
use Rattle.macro_blocks.proofs.Numbered.{placed_none, placed_bad}
use Rattle.reading.specs.Word.{heard_token}
use Rattle.macro_blocks.proofs.number.first_bad.Goals as goal

pub returns-in-Refused : goal.returns-in-Refused
returns-in-Refused c = λ place numbers h.
    placed_bad numbers (heard_token c.args.word.now) c.in-Refused.error (subst (λ z. SaysPlace (heard_token c.args.word.now) z) c.in-Refused.is place) h

pub returns-in_default : goal.returns-in_default
returns-in_default c = λ place numbers h.
    placed_none numbers (heard_token c.args.word.now) c.args.word.now.value c.in_default.not-Refused place h

use Rattle.std.proofs.Common.{sym, subst}
use Rattle.reading.specs.Fault.{FindsValue}
use Rattle.bias_file.specs.Fault.{FifthFault}
use Rattle.bias_file.specs.inside.Value.{SaysFifth}
use Rattle.bias_file.proofs.fault.fifth_value.Goals as goal

pub returns-in-Pad : goal.returns-in-Pad
returns-in-Pad c = subst (λ z. FindsValue (FifthFault z c.args.text.now) (SaysFifth z c.args.text.now) c.small_at.result) (sym c.in-Pad.is) c.small_at.ensures

use Rattle.std.proofs.Common.{sym, subst}
use Rattle.reading.specs.Fault.{FindsValue}
use Rattle.bias_file.specs.Fault.{ValueFault}
use Rattle.bias_file.specs.inside.Value.{SaysThird}
use Rattle.bias_file.proofs.fault.third_value.Goals as goal

pub returns-in-Supply : goal.returns-in-Supply
returns-in-Supply c = subst (λ z. FindsValue (ValueFault z c.args.text.now) (SaysThird z c.args.text.now) c.wide_at.result) (sym c.in-Supply.is) c.wide_at.ensures

pub returns-in-DropLimit : goal.returns-in-DropLimit
returns-in-DropLimit c = subst (λ z. FindsValue (ValueFault z c.args.text.now) (SaysThird z c.args.text.now) c.wide_at-in-DropLimit.result) (sym c.in-DropLimit.is) c.wide_at-in-DropLimit.ensures

pub returns-in-Cell : goal.returns-in-Cell
returns-in-Cell c = subst (λ z. FindsValue (ValueFault z c.args.text.now) (SaysThird z c.args.text.now) c.small_at.result) (sym c.in-Cell.is) c.small_at.ensures

pub returns-in-Instance : goal.returns-in-Instance
returns-in-Instance c = subst (λ z. FindsValue (ValueFault z c.args.text.now) (SaysThird z c.args.text.now) c.small_at-in-Instance.result) (sym c.in-Instance.is) c.small_at-in-Instance.ensures

use Rattle.std.proofs.Common.{Ok, sym, ◌∙◌, ap, subst, to_z, of_z}
use Rattle.reading.specs.Fault.{FindsValue}
use Rattle.reading.specs.Word.{token}
use Rattle.bias_file.specs.Fault.{FourthFault}
use Rattle.bias_file.specs.Number.{amperes}
use Rattle.bias_file.specs.inside.Value.{SaysThird, SaysFourth, small_of}
use Rattle.std.specs.Int.{w64}
use Rattle.bias_file.proofs.Taking.{kept_64}
use Rattle.number_place.specs.Place.{IsNumberAt}
use Rattle.bias_file.proofs.fault.fourth_value.Goals as goal

pub returns-in-Cell : goal.returns-in-Cell
returns-in-Cell c = λ word same said.
    let is : IsNumberAt amperes word.text (Ok (small_of c.args.third)) = subst (λ z. SaysThird z word.text c.args.third) c.in-Cell.is said in
    let kept = ap (λ z. to_z w64 (of_z w64 z)) c.small.ensures ∙ kept_64 (small_of c.args.third) is.1.2.within in
    let low = subst (λ z. IsNumberAt amperes word.text (Ok z)) (sym kept) is in
    subst (λ z. FindsValue (FourthFault z word (token c.args.fourth.now)) (SaysFourth z word (token c.args.fourth.now)) c.range_value.result) (sym c.in-Cell.is) (c.range_value.ensures word same low)

pub returns-in-Instance : goal.returns-in-Instance
returns-in-Instance c = λ word same said.
    let is : IsNumberAt amperes word.text (Ok (small_of c.args.third)) = subst (λ z. SaysThird z word.text c.args.third) c.in-Instance.is said in
    let kept = ap (λ z. to_z w64 (of_z w64 z)) c.small-in-Instance.ensures ∙ kept_64 (small_of c.args.third) is.1.2.within in
    let low = subst (λ z. IsNumberAt amperes word.text (Ok z)) (sym kept) is in
    subst (λ z. FindsValue (FourthFault z word (token c.args.fourth.now)) (SaysFourth z word (token c.args.fourth.now)) c.range_value-in-Instance.result) (sym c.in-Instance.is) (c.range_value-in-Instance.ensures word same low)

pub returns-in-Pad : goal.returns-in-Pad
returns-in-Pad c = λ word same said.
    subst (λ z. FindsValue (FourthFault z word (token c.args.fourth.now)) (SaysFourth z word (token c.args.fourth.now)) c.small_at.result) (sym c.in-Pad.is) c.small_at.ensures

use Rattle.std.proofs.Common.{sym, subst}
use Rattle.lef_tech.specs.Fault.{PointFault, LastFault}
use Rattle.lef_tech.specs.inside.Value.{IsText, SaysLast, SaysHeard}
use Rattle.reading.specs.Fault.{FindsValue}
use Rattle.reading.specs.Word.{token}
use Rattle.lef_tech.proofs.fault.last_value.Goals as goal

pub returns-in-Number : goal.returns-in-Number
returns-in-Number c =
    subst (λ z. FindsValue (LastFault c.args.state.now (token c.args.last.now) z) (SaysHeard (SaysLast z c.args.last.now.text.now) c.args.sort) c.number_value.result)
    (sym c.in-Number.is) c.number_value.ensures

pub returns-in-Microns : goal.returns-in-Microns
returns-in-Microns c =
    subst (λ z. FindsValue (LastFault c.args.state.now (token c.args.last.now) z) (SaysHeard (SaysLast z c.args.last.now.text.now) c.args.sort) c.microns_value.result)
    (sym c.in-Microns.is) c.microns_value.ensures

pub returns-in-Point : goal.returns-in-Point
returns-in-Point c =
    let text = c.args.last.now.text.now in
    subst (λ z. FindsValue (LastFault c.args.state.now (token c.args.last.now) z) (SaysHeard (SaysLast z text) c.args.sort) c.point_value.result) (sym c.in-Point.is)
    (subst (λ z. FindsValue (PointFault c.in-Point.quantity z text) (SaysHeard (IsText c.in-Point.quantity text) c.args.sort) c.point_value.result) c.bytes.ensures c.point_value.ensures)

pub returns-in-Value : goal.returns-in-Value
returns-in-Value c =
    subst (λ z. FindsValue (LastFault c.args.state.now (token c.args.last.now) z) (SaysHeard (SaysLast z c.args.last.now.text.now) c.args.sort) c.entry_value.result)
    (sym c.in-Value.is) c.entry_value.ensures

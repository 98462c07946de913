use Rattle.std.proofs.Common.{sym, subst}
use Rattle.lef_cells.specs.Fault.{SecondFault}
use Rattle.lef_cells.specs.Section.{standing_of}
use Rattle.lef_cells.specs.inside.Value.{SaysSecond}
use Rattle.reading.specs.Fault.{FindsValue}
use Rattle.lef_cells.proofs.fault.second_value.Goals as goal

pub returns-in-Size : goal.returns-in-Size
returns-in-Size c = λ units h.
    let second = c.args.second.now in
    subst (λ z. FindsValue (SecondFault z (standing_of units).section units second) (SaysSecond z second) c.length_value.result) (sym c.in-Size.is)
    c.length_value.ensures

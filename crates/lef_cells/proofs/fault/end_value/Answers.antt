use Rattle.std.proofs.Common.{sym, subst}
use Rattle.lef_cells.specs.declared.sort.Sort.TheVariants.{Site, Macro, End}
use Rattle.lef_cells.specs.Fault.{SecondFault}
use Rattle.lef_cells.specs.inside.Held.{HoldsIn}
use Rattle.lef_cells.proofs.Taking.{open_name}
use Rattle.reading.specs.Fault.{FindsValue}
use Rattle.lef_cells.proofs.fault.end_value.Goals as goal

pub returns-in-SizedSite : goal.returns-in-SizedSite
returns-in-SizedSite c = λ units h.
    let said = c.args.held.now.said in
    subst (λ z. FindsValue (SecondFault End z units c.args.name.now) (λ value. Unit {0}) c.other_name.result) (sym c.in-SizedSite.is)
    (c.other_name.ensures units (open_name Site units said (subst (λ z. HoldsIn z units said) c.in-SizedSite.is h).0))

pub returns-in-SizedMacro : goal.returns-in-SizedMacro
returns-in-SizedMacro c = λ units h.
    let said = c.args.held.now.said in
    subst (λ z. FindsValue (SecondFault End z units c.args.name.now) (λ value. Unit {0}) c.other_name-in-SizedMacro.result) (sym c.in-SizedMacro.is)
    (c.other_name-in-SizedMacro.ensures units (open_name Macro units said (subst (λ z. HoldsIn z units said) c.in-SizedMacro.is h).0))

use Rattle.std.proofs.Common.{sym, subst}
use Rattle.macro_blocks.specs.declared.section.Section.{Section}
use Rattle.macro_blocks.specs.declared.section.Section.TheVariants.{Macro, Pin, Port}
use Rattle.macro_blocks.specs.declared.value.Value.TheVariants.{Nothing}
use Rattle.macro_blocks.specs.Fault.{SecondFault}
use Rattle.macro_blocks.specs.inside.Value.{SaysSecond}
use Rattle.macro_blocks.proofs.Numbered.{or_value}
use Rattle.reading.specs.Fault.{FindsValue}
use Rattle.reading.specs.Word.{token}
use Rattle.macro_blocks.proofs.fault.second_value.Goals as goal

pub returns-in-Macro : goal.returns-in-Macro
returns-in-Macro c = λ numbers same h.
    let second = token c.args.second.now in
    subst (λ (z : Section). FindsValue (SecondFault z c.args.standing.now numbers c.args.first second) (SaysSecond z c.args.first second) c.value_or.result) (sym c.in-Macro.is)
    (or_value (SecondFault Macro c.args.standing.now numbers c.args.first second) (SaysSecond Macro c.args.first second) Nothing c.macro_fault.result
    c.value_or.result c.value_or.ensures tt (c.macro_fault.ensures numbers))

pub returns-in-Pin : goal.returns-in-Pin
returns-in-Pin c = λ numbers same h.
    let second = token c.args.second.now in
    let told = c.value_or-in-Pin in
    subst (λ (z : Section). FindsValue (SecondFault z c.args.standing.now numbers c.args.first second) (SaysSecond z c.args.first second) told.result) (sym c.in-Pin.is)
    (or_value (SecondFault Pin c.args.standing.now numbers c.args.first second) (SaysSecond Pin c.args.first second) Nothing c.pin_fault.result
    told.result told.ensures tt (c.pin_fault.ensures numbers same h))

pub returns-in-Port : goal.returns-in-Port
returns-in-Port c = λ numbers same h.
    let second = token c.args.second.now in
    let told = c.value_or-in-Port in
    subst (λ (z : Section). FindsValue (SecondFault z c.args.standing.now numbers c.args.first second) (SaysSecond z c.args.first second) told.result) (sym c.in-Port.is)
    (or_value (SecondFault Port c.args.standing.now numbers c.args.first second) (SaysSecond Port c.args.first second) Nothing c.port_fault.result
    told.result told.ensures tt (c.port_fault.ensures numbers second same))

pub returns-in-Layered : goal.returns-in-Layered
returns-in-Layered c = λ numbers same h.
    let second = token c.args.second.now in
    subst (λ (z : Section). FindsValue (SecondFault z c.args.standing.now numbers c.args.first second) (SaysSecond z c.args.first second) c.layered_value.result) (sym c.in-Layered.is)
    (c.layered_value.ensures numbers same)

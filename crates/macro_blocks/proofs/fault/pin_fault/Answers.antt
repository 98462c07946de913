use Rattle.std.proofs.Common.{sym, ◌∙◌, ap, subst}
use Rattle.macro_blocks.specs.declared.section.Section.TheVariants.{Pin}
use Rattle.macro_blocks.specs.Fault.{UseFault, is_supply, SecondFault}
use Rattle.macro_blocks.specs.Sort.{sort_of}
use Rattle.reading.specs.Fault.{Finds}
use Rattle.reading.specs.Word.{token}
use Rattle.macro_blocks.proofs.fault.pin_fault.Goals as goal

pub returns-in-Use : goal.returns-in-Use
returns-in-Use c = λ numbers same h.
    let found = c.use_fault.result in
    let second = token c.args.second.now in
    subst (λ z. Finds (SecondFault Pin c.args.standing.now numbers z second) found) (sym c.in-Use.is)
    (subst (λ z. Finds (UseFault (is_supply (sort_of second)) z numbers) found) c.is_known-known.ensures
    (subst (λ z. Finds (UseFault z c.is_known-known.result numbers) found) (c.is_supply.ensures ∙ ap is_supply same)
    (c.use_fault.ensures numbers h)))

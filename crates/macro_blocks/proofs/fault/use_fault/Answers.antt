use Rattle.std.proofs.Common.{true, sym, subst}
use Rattle.macro_blocks.specs.Fault.{UseFault}
use Rattle.reading.specs.Fault.{Finds}
use Rattle.macro_blocks.proofs.fault.use_fault.Goals as goal

pub returns-in-true-false : goal.returns-in-true-false
returns-in-true-false c = λ numbers h.
    subst (λ z. Finds (UseFault z c.args.known numbers) c.earlier_fault.result) (sym c.in-true-false.is-0)
    (subst (λ z. Finds (UseFault true z numbers) c.earlier_fault.result) (sym c.in-true-false.is-1) (c.earlier_fault.ensures numbers h))

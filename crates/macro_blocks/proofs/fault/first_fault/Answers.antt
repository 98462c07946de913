use Rattle.std.proofs.Common.{sym, subst}
use Rattle.macro_blocks.specs.Fault.{UnfitFault, is_supply, FirstFault}
use Rattle.reading.specs.Fault.{Finds}
use Rattle.macro_blocks.proofs.fault.first_fault.Goals as goal

pub returns-in-Unfit : goal.returns-in-Unfit
returns-in-Unfit c = λ numbers h.
    let found = c.unfit_fault.result in
    let first = c.args.first in
    subst (λ z. Finds (FirstFault z c.args.standing.now numbers first) found) (sym c.in-Unfit.is)
    (subst (λ z. Finds (UnfitFault (is_supply first) z numbers) found) c.is_use.ensures
    (subst (λ z. Finds (UnfitFault z c.is_use.result numbers) found) c.is_supply.ensures
    (c.unfit_fault.ensures numbers h)))

use Rattle.std.proofs.Common.{List, None, subst}
use Rattle.def_wiring.specs.declared.record.WiredNet.{WiredNet}
use Rattle.wire_limits.specs.inside.Segments.{FindsOddNet}
use Rattle.wire_limits.proofs.within.check_widths.Goals as goal

pub returns-in-None-clause-fit : goal.returns-in-None-clause-fit
returns-in-None-clause-fit c =
    subst (λ (nets : List WiredNet). FindsOddNet nets None) c.as_slice.ensures
    (subst (FindsOddNet c.as_slice.result.now) c.in-None.is c.in_ok-net.ensures)

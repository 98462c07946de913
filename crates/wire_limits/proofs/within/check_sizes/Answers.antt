use Rattle.std.proofs.Common.{List, None, subst}
use Rattle.wire_names.specs.declared.record.NamedVia.{NamedVia}
use Rattle.wire_names.specs.declared.record.Spot.{Spot}
use Rattle.wire_limits.specs.Vias.{HasSize}
use Rattle.wire_limits.specs.inside.Used.{FindsUsed}
use Rattle.wire_limits.proofs.within.check_sizes.Goals as goal

pub returns-in-None-clause-fit : goal.returns-in-None-clause-fit
returns-in-None-clause-fit c =
    let named = c.args.named.now in
    subst (λ (vs : List NamedVia). FindsUsed HasSize vs named.spots None) c.as_slice.ensures
    (subst (λ (ss : List Spot). FindsUsed HasSize c.as_slice.result.now ss None) c.as_slice-2.ensures
    (subst (FindsUsed HasSize c.as_slice.result.now c.as_slice-2.result.now) c.in-None.is c.in_ok-via.ensures))

use Rattle.wire_names.proofs.Kept.{named_keep}
use Rattle.wire_names.proofs.resolve.named.Goals as goal

pub returns-clause-keep : goal.returns-clause-keep
returns-clause-keep c =
    named_keep c.args.tech.now c.args.wires.now c.in_ok-tables.tables c.in_ok-pair.pair c.in_ok-named.named c.in_ok-tables.ensures c.in_ok-named.ensures.placed c.in_ok-named.ensures.keep

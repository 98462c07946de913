use Rattle.std.proofs.Common.{refl}
use Rattle.judging.proofs.Judged.{from_merge}
use Rattle.judging.proofs.network.merge_named.Goals as goal

pub returns-in-Ok-clause-network : goal.returns-in-Ok-clause-network
returns-in-Ok-clause-network c text reads =
    record {
      network = record { netlist = reads; agree = c.in-Ok.ensures.agree refl; merge = c.in-Ok.ensures.merged };
      keeps = c.requires;
      built = c.merge.ensures.built;
      groups_built = c.nodes-nodes.ensures.built;
    }

pub returns-in-Err-clause-refused : goal.returns-in-Err-clause-refused
returns-in-Err-clause-refused c netlist text reads =
    from_merge netlist text c.args.named c.in-Err.error c.merge_refused.result reads c.merge.ensures.built c.in-Err.ensures.refused c.merge_refused.ensures

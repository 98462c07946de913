use Rattle.std.proofs.Common.{List, subst}
use Rattle.std.proofs.lemmas.List.{take_all}
use Rattle.pdn_script.specs.declared.record.Domain.{Domain}
use Rattle.grid_plan.specs.Names.{HaveNets}
use Rattle.grid_plan.proofs.Stepped.{nets_more}
use Rattle.grid_plan.proofs.nets.net_table.Goals as goal

pub loop-domain-preserved : goal.loop-domain-preserved
loop-domain-preserved c = (
  c.in_ok-add_net-2.ensures.distinct,
  nets_more c.args.domains.now c.loop-domain.domain-index c.domain-item.result c.loop-domain.table c.add_net.new.table
      c.add_net-in-loop-domain.new.table c.loop-domain-test.true c.domain-item.is c.loop-domain.invariant.1 c.in_ok-add_net.ensures.takes c.in_ok-add_net-2.ensures.takes,
)

pub returns : goal.returns
returns c = (
  c.loop-domain.invariant.0,
  subst (λ (ds : List Domain). HaveNets ds c.loop-domain.table)
      (take_all c.loop-domain.domain-index c.args.domains.now c.loop-domain-test.false) c.loop-domain.invariant.1,
)

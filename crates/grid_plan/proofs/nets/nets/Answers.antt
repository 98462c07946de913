use Rattle.std.proofs.Common.{List, subst}
use Rattle.pdn_script.specs.declared.record.Domain.{Domain}
use Rattle.grid_plan.specs.Names.{HaveNets}
use Rattle.grid_plan.proofs.Stepped.{nets_are}
use Rattle.grid_plan.proofs.nets.nets.Goals as goal

pub returns : goal.returns
returns c =
    let have = subst (λ (domains : List Domain). HaveNets domains c.in_ok-table.table) c.as_slice.ensures c.in_ok-table.ensures.1 in
    nets_are c.args.script.now c.in_ok-table.table c.in_ok-nets.nets have c.in_ok-nets.ensures.0 c.in_ok-nets.ensures.1

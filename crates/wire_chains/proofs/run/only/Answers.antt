use Rattle.wire_chains.proofs.Lists.{one_alone}
use Rattle.wire_chains.proofs.run.only.Goals as goal

pub returns : goal.returns
returns c = one_alone c.args.level.now _ c.requires

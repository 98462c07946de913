use Rattle.pdn_script.proofs.Taken.{begun}
use Rattle.pdn_script.proofs.held.Held.new.Goals as goal

pub returns : goal.returns
returns c = begun _ c.in_ok-new.ensures c.new.ensures

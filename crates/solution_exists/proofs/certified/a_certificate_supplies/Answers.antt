use Rattle.solution_exists.proofs.Supply.{each_supplied}
use Rattle.solution_exists.proofs.certified.a_certificate_supplies.Goals as goal

pub returns : goal.returns
returns s net high low wf highs lows = each_supplied net wf high low highs lows

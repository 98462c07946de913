use Rattle.grid_net.proofs.Accepted.{keeps_from_none, agree_from_none, none_from_keeps}
use Rattle.grid_net.proofs.laws.no_net_refusal.Goals as goal

pub returns-clause-limits : goal.returns-clause-limits
returns-clause-limits s nodes resistors pads loads e = keeps_from_none nodes resistors pads loads e

pub returns-clause-pads : goal.returns-clause-pads
returns-clause-pads s nodes resistors pads loads e = agree_from_none nodes resistors pads loads e

pub returns-clause-none : goal.returns-clause-none
returns-clause-none s nodes resistors pads loads keeps agree = none_from_keeps nodes resistors pads loads keeps agree

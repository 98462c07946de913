use Rattle.std.proofs.Common.{refl}
use Rattle.def_wiring.proofs.Taking.{took}
use Rattle.def_wiring.proofs.held.Sections.end_net.Goals as goal

pub returns-in-Some : goal.returns-in-Some
returns-in-Some c = took c.end_wired.result _ _ (λ all word. all c.args.standing.now word c.in-Some.is refl) c.end_wired.ensures

pub returns-in-None : goal.returns-in-None
returns-in-None c = λ word. c.end_other.ensures c.args.standing.now word c.in-None.is

use Rattle.def_wiring.proofs.Taking.{other_ended}
use Rattle.def_wiring.proofs.held.Sections.end_other.Goals as goal

pub returns : goal.returns
returns c = λ there word none. other_ended there word c.args.self.now c.clear.new.self none c.clear.ensures

use Rattle.def_wiring.proofs.Taking.{point_lost}
use Rattle.def_wiring.proofs.held.Sections.end_point.Goals as goal

pub returns-in-Some : goal.returns-in-Some
returns-in-Some c = λ word. point_lost c.args.standing.now word c.args.self.now c.in-Some.field-0 c.in-Some.is

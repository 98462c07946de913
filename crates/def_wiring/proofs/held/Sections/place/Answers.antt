use Rattle.def_wiring.proofs.Taking.{place_lost}
use Rattle.def_wiring.proofs.held.Sections.place.Goals as goal

pub returns-in-Some : goal.returns-in-Some
returns-in-Some c = λ there word on called. place_lost there word c.args.self.now c.in-Some.field-0 c.in-Some.is

use Rattle.std.proofs.Common.{refl}
use Rattle.def_wiring.proofs.Taking.{point_first, point_drawn}
use Rattle.def_wiring.proofs.held.Sections.draw.Goals as goal

pub returns-in_ok-push-in-Some : goal.returns-in_ok-push-in-Some
returns-in_ok-push-in-Some c = λ word.
    let old = c.args.self.now in
    point_drawn c.args.standing.now word old (record old { segments = c.push.new.self }) c.in-Some.from c.in_ok-segment-in-Some.segment c.requires c.in-Some.is
    c.in_ok-segment-in-Some.ensures refl refl refl refl refl c.in_ok-push-in-Some.ensures.items refl

pub returns-in-None : goal.returns-in-None
returns-in-None c = λ word. point_first c.args.standing.now word c.args.self.now c.in-None.is

use Rattle.std.proofs.Common.{unsigned_abs}
use Rattle.grid_net.specs.Solver.{Proposes}
use Rattle.bound_make.specs.declared.half.Half.TheVariants.{High, Low}
use Rattle.bound_make.specs.Scale.{Scale}
use Rattle.bound_make.proofs.Answered.{AreMade, certificate_made, tight_made, ranges_made, stands, told_made, at_scale, if_some_is}
use Rattle.bound_make.proofs.certifier.fill.Given as given
use Rattle.bound_make.proofs.certifier.fill.Goals as goal

-- What each goal below rests on.
made : (g : given.Over) (c : goal.After-saturating_add g) → AreMade c.args.net.now c.scale_of-scale.ensures.exact.0 c.propose.new.x c.propose.new.w c.make-of_high.new.x c.make-of_low.new.x
made g c =
    let net = c.args.net.now in
    let scale = c.scale_of-scale.result in
    let s : Scale = c.scale_of-scale.ensures.exact.0 in
    let e = c.scale_of-scale.ensures.exact in
    record {
      wf = c.nodes-nodes.ensures.built.is_network;
      range = e.5;
      high_size = c.make-of_high.ensures.size;
      low_size = c.make-of_low.ensures.size;
      of_high = at_scale High net s c.propose.new.x c.make-of_high.new.x scale.bottom scale.top (unsigned_abs scale.width) e.2 e.3 e.4 c.make-of_high.ensures.made;
      of_low = at_scale Low net s c.propose.new.w c.make-of_low.new.x scale.bottom scale.top (unsigned_abs scale.width) e.2 e.3 e.4 c.make-of_low.ensures.made;
    }

pub returns-clause-certificate : goal.returns-clause-certificate
returns-clause-certificate g c = certificate_made _ _ _ _ _ _ (made g c)

pub returns-clause-tight : goal.returns-clause-tight
returns-clause-tight g c = tight_made _ _ _ _ _ _ (made g c)

pub returns-clause-range : goal.returns-clause-range
returns-clause-range g c =
    let net = c.args.net.now in
    let s : Scale = c.scale_of-scale.ensures.exact.0 in
    let x = c.propose.new.x in
    let w = c.propose.new.w in
    let high = c.make-of_high.new.x in
    let low = c.make-of_low.new.x in
    let told = g.V.Solver.told c.args.solver.now in
    let stand = stands net s x w high low (made g c) in
    (s, c.scale_of-scale.ensures.exact.1, ranges_made net s x w high low (made g c), told_made net s told x w high low stand (λ t is. if_some_is told (λ lists. Proposes net lists x w) t c.propose.ensures.proposed is))

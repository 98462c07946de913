use Rattle.std.proofs.Common.{unsigned_abs}
use Rattle.bound_make.specs.declared.half.Half.TheVariants.{High, Low}
use Rattle.bound_make.specs.Scale.{Scale}
use Rattle.bound_make.proofs.Answered.{at_scale}
use Rattle.bound_make.proofs.Sided.{high_made, low_made}
use Rattle.bound_make.proofs.two_nets.fill_halves.Goals as goal

pub returns-clause-high : goal.returns-clause-high
returns-clause-high g c =
    let net = c.args.of_high.now in
    let scale = c.scale_of-high_scale.result in
    let e = c.scale_of-high_scale.ensures.exact in
    let s : Scale = e.0 in
    high_made net s c.propose.new.x c.make.new.x c.nodes-nodes.ensures.built.is_network e.5
    (at_scale High net s c.propose.new.x c.make.new.x scale.bottom scale.top (unsigned_abs scale.width) e.2 e.3 e.4 c.make.ensures.made)

pub returns-clause-low : goal.returns-clause-low
returns-clause-low g c =
    let net = c.args.of_low.now in
    let scale = c.scale_of-low_scale.result in
    let e = c.scale_of-low_scale.ensures.exact in
    let s : Scale = e.0 in
    low_made net s c.propose-2.new.w c.make-2.new.x c.nodes-as_many.ensures.built.is_network e.5
    (at_scale Low net s c.propose-2.new.w c.make-2.new.x scale.bottom scale.top (unsigned_abs scale.width) e.2 e.3 e.4 c.make-2.ensures.made)

use Rattle.std.proofs.Common.{arith}
use Rattle.strap_layout.proofs.Added.{AreStrapsBefore-none, AreStrapsBefore-all}
use Rattle.strap_layout.proofs.lines.straps_up_to.Goals as goal

pub loop-net_place-init : goal.loop-net_place-init
loop-net_place-init c = rw c.new-straps.ensures.items (AreStrapsBefore-none c.args.rule.now c.args.core c.args.reach.now, omega arith)

pub returns : goal.returns
returns c =
    (AreStrapsBefore-all c.args.rule.now c.args.core c.args.reach.now c.loop-net_place.straps.items c.loop-net_place.net_place (omega arith) c.loop-net_place.invariant.0, c.loop-net_place.invariant.1)

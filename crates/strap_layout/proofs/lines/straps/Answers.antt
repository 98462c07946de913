use Rattle.std.proofs.Common.{arith}
use Rattle.strap_layout.proofs.Added.{AreStrapsBefore-none, AreStrapsBefore-all}
use Rattle.strap_layout.proofs.lines.straps.Goals as goal

pub loop-place-init : goal.loop-place-init
loop-place-init c = rw c.new-straps.ensures.items (AreStrapsBefore-none c.args.rule.now c.args.core c.args.reach.now)

pub returns : goal.returns
returns c =
    AreStrapsBefore-all c.args.rule.now c.args.core c.args.reach.now c.loop-place.straps.items c.loop-place.place (omega arith) c.loop-place.invariant

use Rattle.std.proofs.Common.{arith}
use Rattle.plain_drawing.proofs.Least.{none_before, finds}
use Rattle.plain_drawing.proofs.touches.least_touch.Goals as goal

pub loop-one-init : goal.loop-one-init
loop-one-init c = none_before c.args.all.now

pub returns : goal.returns
returns c = finds c.args.all.now c.loop-one.one c.loop-one.least (omega arith) c.loop-one.invariant

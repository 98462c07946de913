use Rattle.std.proofs.Common.{◌+◌, sym, subst, arith}
use Rattle.plain_drawing.specs.inside.Least.{IsLeast, IsTouchTo}
use Rattle.plain_drawing.proofs.Least.{one_more, one_done}
use Rattle.plain_drawing.proofs.touches.with_touches_of.Goals as goal

pub loop-other-preserved : goal.loop-other-preserved
loop-other-preserved c =
    let all = c.args.all.now in
    let other = c.loop-other.other in
    subst (IsLeast (IsTouchTo all c.args.one (other + 1))) (sym c.lesser-least.ensures)
    (one_more all c.args.one other c.loop-other.least c.touch_at.result c.loop-other.invariant c.touch_at.ensures)

pub returns : goal.returns
returns c = one_done c.args.all.now c.args.one c.loop-other.other c.loop-other.least (omega arith) c.loop-other.invariant

use Rattle.plain_drawing.specs.inside.Least.{IsLeast, IsTouchTo}
use Rattle.plain_drawing.proofs.touches.least_touch.Given as goal

abbrev pub invariant-loop-one : goal.invariant-loop-one
invariant-loop-one l = IsLeast (IsTouchTo l.all l.one 0) l.least

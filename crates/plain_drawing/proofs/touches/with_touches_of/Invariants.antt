use Rattle.plain_drawing.specs.inside.Least.{IsLeast, IsTouchTo}
use Rattle.plain_drawing.proofs.touches.with_touches_of.Given as goal

abbrev pub invariant-loop-other : goal.invariant-loop-other
invariant-loop-other l = IsLeast (IsTouchTo l.all l.one l.other) l.least

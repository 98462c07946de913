use Rattle.bound_make.specs.inside.Half.{seen}
use Rattle.bound_make.specs.inside.Moving.{IsLowering, fall_room}
use Rattle.bound_make.proofs.phase.lower_until_trim.Given as goal

abbrev pub invariant-loop-half : goal.invariant-loop-half
invariant-loop-half l = record {
  kept : IsLowering (seen l.half l.net) l.initial.x l.x;
}

abbrev pub decreases-loop-half : goal.decreases-loop-half
decreases-loop-half l = fall_room l.x

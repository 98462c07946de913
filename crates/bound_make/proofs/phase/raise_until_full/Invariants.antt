use Rattle.bound_make.specs.inside.Half.{seen}
use Rattle.bound_make.specs.inside.Moving.{IsRaising, rise_room}
use Rattle.bound_make.proofs.phase.raise_until_full.Given as goal

abbrev pub invariant-loop-half : goal.invariant-loop-half
invariant-loop-half l = record {
  kept : IsRaising (seen l.half l.net) l.initial.x l.x;
}

abbrev pub decreases-loop-half : goal.decreases-loop-half
decreases-loop-half l = rise_room l.x

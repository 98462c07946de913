-- The pads of the lines before the next one, and the first of these lines whose pad is off.
use Rattle.grid_taps.proofs.StandSteps.{IsStoodTo}
use Rattle.grid_taps.proofs.standing.stand_all.Given as goal

abbrev pub invariant-loop-pad : goal.invariant-loop-pad
invariant-loop-pad l = IsStoodTo l.grid l.tech l.bias l.nets l.pad-items l.pad-index l.pads.items l.off

use Rattle.std.proofs.Common.{take}
use Rattle.grid_network.specs.inside.Steps.{Adds}
use Rattle.grid_network.specs.Drawing.{HasPad}
use Rattle.grid_network.proofs.junction.add_pads.Given as goal

abbrev pub invariant-loop-pad : goal.invariant-loop-pad
invariant-loop-pad l = Adds (λ j. HasPad (take l.pad-index l.pads) j.piece j.along) l.initial.places.items l.places.items

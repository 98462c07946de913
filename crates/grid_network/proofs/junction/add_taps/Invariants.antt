use Rattle.std.proofs.Common.{take}
use Rattle.grid_network.specs.inside.Steps.{Adds}
use Rattle.grid_network.specs.Drawing.{HasTap}
use Rattle.grid_network.proofs.junction.add_taps.Given as goal

abbrev pub invariant-loop-tap : goal.invariant-loop-tap
invariant-loop-tap l = Adds (λ j. HasTap (take l.tap-index l.taps) j.piece j.along) l.initial.places.items l.places.items

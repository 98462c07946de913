-- The components before the next one have their taps.
use Rattle.grid_taps.proofs.TapSteps.{AreTappedTo}
use Rattle.grid_taps.proofs.tapping.tap_all.Given as goal

abbrev pub invariant-loop-number : goal.invariant-loop-number
invariant-loop-number l = AreTappedTo l.grid l.cells l.bias l.tables l.components l.number l.taps.items

-- The components before the next one have their taps.
use Rattle.pin_taps.proofs.TapSteps.{AreTappedTo}
use Rattle.pin_taps.proofs.tapping.tap_all.Given as goal

abbrev pub invariant-loop-place : goal.invariant-loop-place
invariant-loop-place l = AreTappedTo l.drawn l.cells l.bias l.tables l.components l.place l.taps.items

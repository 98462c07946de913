-- The rails among the pieces before the next one.
use Rattle.grid_taps.specs.inside.Rails.{AreRailsOf}
use Rattle.grid_taps.proofs.rail.drawn_rails.Given as goal

abbrev pub invariant-loop-number : goal.invariant-loop-number
invariant-loop-number l = AreRailsOf l.pieces l.number l.rails.items

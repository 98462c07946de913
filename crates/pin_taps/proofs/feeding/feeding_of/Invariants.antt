use Rattle.std.proofs.Common.{◌≡◌, map, filter, take}
use Rattle.pin_taps.specs.inside.Tables.{pin_entry, is_joined}
use Rattle.pin_taps.proofs.feeding.feeding_of.Given as goal

abbrev pub invariant-loop-pin : goal.invariant-loop-pin
invariant-loop-pin l = l.entries.items ≡ map (pin_entry l.drawn.grid) (filter (is_joined l.drawn.grid) (take l.pin-index l.drawn.pins))

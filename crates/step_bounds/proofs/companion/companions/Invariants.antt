use Rattle.std.proofs.Common.{◌≡◌, take}
use Rattle.std.specs.List.{filter_map}
use Rattle.step_bounds.specs.Capacitors.{companion_of}
use Rattle.step_bounds.proofs.companion.companions.Given as goal

abbrev pub invariant-loop-cap : goal.invariant-loop-cap
invariant-loop-cap l = l.found.items ≡ filter_map (companion_of l.net l.time) (take l.cap-index l.caps)

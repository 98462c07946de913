use Rattle.std.proofs.Common.{◌≡◌, map, take}
use Rattle.spice_grid.specs.inside.Caps.{named_cap}
use Rattle.spice_grid.proofs.caps.numbered_caps.Given as goal

-- Those before the index have their ends.
abbrev pub invariant-loop-cap : goal.invariant-loop-cap
invariant-loop-cap l = l.caps.items ≡ map (named_cap l.names l.places) (take l.cap-index l.read)

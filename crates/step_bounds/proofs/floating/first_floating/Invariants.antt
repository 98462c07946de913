use Rattle.std.proofs.Common.{◌≡◌, None, take}
use Rattle.grid_net.specs.Search.{first_of}
use Rattle.step_bounds.specs.Capacitors.{floats_at}
use Rattle.step_bounds.proofs.floating.first_floating.Given as goal

abbrev pub invariant-loop-cap : goal.invariant-loop-cap
invariant-loop-cap l = first_of (floats_at l.net) (take l.cap-index l.caps) ≡ None

use Rattle.std.proofs.Common.{◌≡◌, map, take}
use Rattle.grid_plan.specs.Resolved.{ring_of}
use Rattle.grid_plan.specs.inside.Tables.{names_in}
use Rattle.grid_plan.proofs.commands.rings.Given as goal

abbrev pub invariant-loop-ring : goal.invariant-loop-ring
invariant-loop-ring l = l.rings.items ≡ map (ring_of l.tech (names_in l.tables) l.nets l.script l.fn.units) (take l.ring-index l.script.rings)

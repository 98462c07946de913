use Rattle.std.proofs.Common.{◌≡◌, ◌++◌, take}
use Rattle.std.specs.List.{flat_map}
use Rattle.block_stripes.specs.Rings.{ring_over}
use Rattle.block_stripes.proofs.rings.add_around.Given as goal

abbrev pub invariant-loop-core : goal.invariant-loop-core
invariant-loop-core l = l.shapes.items ≡ l.fn.shapes.items ++ flat_map (ring_over l.ring) (take l.core-index l.cores)

use Rattle.std.proofs.Common.{◌≡◌}
use Rattle.std.specs.List.{flat_map, range_with_len}
use Rattle.ring_layout.specs.Rings.{sides_of}
use Rattle.ring_layout.proofs.drawing.rings.Given as goal

abbrev pub invariant-loop-place : goal.invariant-loop-place
invariant-loop-place l = l.sides.items ≡ flat_map (sides_of l.rule l.core) (range_with_len 0 l.place)

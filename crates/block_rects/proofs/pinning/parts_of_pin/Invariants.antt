use Rattle.std.proofs.Common.{◌≡◌, take}
use Rattle.std.specs.List.{filter_map}
use Rattle.block_rects.specs.Placed.{part_of}
use Rattle.block_rects.proofs.pinning.parts_of_pin.Given as goal

abbrev pub invariant-loop-rect : goal.invariant-loop-rect
invariant-loop-rect l = l.parts.items ≡ filter_map (part_of l.tech l.units l.placed l.pin.power) (take l.rect-index l.pin.rects)

use Rattle.std.proofs.Common.{◌≡◌, take}
use Rattle.std.specs.List.{flat_map}
use Rattle.block_rects.specs.Placed.{parts_of_pin}
use Rattle.block_rects.proofs.pinning.all_parts.Given as goal

abbrev pub invariant-loop-pin : goal.invariant-loop-pin
invariant-loop-pin l = l.parts.items ≡ flat_map (parts_of_pin l.tech l.units l.placed) (take l.pin-index l.cell.pins)

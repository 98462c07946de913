use Rattle.std.proofs.Common.{◌≡◌, ◌++◌, take}
use Rattle.pin_shapes.specs.Pins.{pin_shapes}
use Rattle.pin_shapes.proofs.pins.add_blocks.Given as goal

abbrev pub invariant-loop-block : goal.invariant-loop-block
invariant-loop-block l = l.shapes.items ≡ l.fn.shapes.items ++ pin_shapes l.tech l.domains (take l.block-index l.blocks)

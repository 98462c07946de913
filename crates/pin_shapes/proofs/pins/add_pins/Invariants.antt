use Rattle.std.proofs.Common.{◌≡◌, ◌++◌, map, take}
use Rattle.pin_shapes.specs.Pins.{pin_shape}
use Rattle.pin_shapes.proofs.pins.add_pins.Given as goal

abbrev pub invariant-loop-part : goal.invariant-loop-part
invariant-loop-part l = l.shapes.items ≡ l.fn.shapes.items ++ map (pin_shape l.tech l.domain) (take l.part-index l.parts)

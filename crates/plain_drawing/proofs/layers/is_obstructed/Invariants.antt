use Rattle.std.proofs.Common.{take}
use Rattle.grid_stacks.specs.Crossing.{IsObstructed}
use Rattle.plain_drawing.proofs.layers.is_obstructed.Given as goal

abbrev pub invariant-loop-block : goal.invariant-loop-block
invariant-loop-block l = IsObstructed l.tech l.connect (take l.block-index l.blocks) l.rect → ⊥

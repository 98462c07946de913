use Rattle.std.proofs.Common.{◌≡◌, ◌++◌, map, take}
use Rattle.std.specs.List.{flat_map}
use Rattle.grid_pieces.specs.Touch.{piece_metal, stack_metal, between}
use Rattle.plain_drawing.proofs.metal.metal_of.Given as goal

abbrev pub invariant-loop-piece : goal.invariant-loop-piece
invariant-loop-piece l = l.all.items ≡ map piece_metal (take l.piece-index l.pieces)

abbrev pub invariant-loop-stack : goal.invariant-loop-stack
invariant-loop-stack l = l.all.items ≡ map piece_metal l.pieces ++ flat_map (λ s. map (stack_metal s) (between s.stack.from s.stack.to)) (take l.stack-index l.stacks)

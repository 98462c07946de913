use Rattle.std.proofs.Common.{◌≡◌, take}
use Rattle.std.specs.List.{filter_map}
use Rattle.block_rects.specs.Placed.{obstruction_of}
use Rattle.block_rects.proofs.obstructing.all_obstructions.Given as goal

abbrev pub invariant-loop-rect : goal.invariant-loop-rect
invariant-loop-rect l = l.all.items ≡ filter_map (obstruction_of l.tech l.units l.placed) (take l.rect-index l.cell.obstructions)

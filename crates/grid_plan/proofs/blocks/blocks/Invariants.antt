use Rattle.std.proofs.Common.{◌≡◌, take}
use Rattle.grid_plan.specs.Resolved.{block_of}
use Rattle.grid_plan.specs.inside.Tables.{names_in}
use Rattle.std.specs.List.{filter_map}
use Rattle.grid_plan.proofs.blocks.blocks.Given as goal

abbrev pub invariant-loop-blockage : goal.invariant-loop-blockage
invariant-loop-blockage l = l.blocks.items ≡ filter_map (block_of l.tech (names_in l.tables) l.design.units) (take l.blockage-index l.design.blockages)

use Rattle.std.proofs.Common.{◌≡◌, take}
use Rattle.std.specs.List.{filter_map}
use Rattle.block_grids.specs.Blocks.{block_of, numbered}
use Rattle.block_grids.proofs.finding.blocks_among.Given as goal

abbrev pub invariant-loop-number : goal.invariant-loop-number
invariant-loop-number l = l.blocks.items ≡ filter_map (block_of l.cells l.grids) (numbered (take l.number l.components))

use Rattle.std.proofs.Common.{◌≡◌, take, false}
use Rattle.std.specs.List.{list_any}
use Rattle.block_grids.specs.Blocks.{is_block}
use Rattle.block_grids.proofs.finding.is_block_among.Given as goal

abbrev pub invariant-loop-component : goal.invariant-loop-component
invariant-loop-component l = list_any (is_block l.cells) (take l.component-index l.components) ≡ false

use Rattle.std.proofs.Common.{All, take}
use Rattle.entry_list.specs.InTurn.{InTurn}
use Rattle.placed_blocks.specs.Limits.{BlockKeeps}
use Rattle.placed_blocks.specs.Placed.{IsPlacedBlock}
use Rattle.placed_blocks.proofs.placing.place_all.Given as goal

abbrev pub invariant-loop-at : goal.invariant-loop-at
invariant-loop-at l = record {
  blocks : InTurn (IsPlacedBlock l.tech l.cells l.blocks l.script l.units l.regions) (take l.at-index l.ats) l.placed.items;
  keep : All (BlockKeeps l.tech) l.placed.items;
}

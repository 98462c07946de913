use Rattle.std.proofs.Common.{take}
use Rattle.entry_list.specs.InTurn.{InTurn}
use Rattle.block_grids.specs.Halo.{HasHalo}
use Rattle.block_grids.proofs.halo.halos_of.Given as goal

abbrev pub invariant-loop-place : goal.invariant-loop-place
invariant-loop-place l = InTurn (HasHalo l.units) (take l.place l.script.grids) l.halos.items

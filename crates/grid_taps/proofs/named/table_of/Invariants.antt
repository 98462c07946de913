-- The table has the names of the items before the next one.
use Rattle.std.proofs.Common.{map, take}
use Rattle.grid_taps.proofs.Tables.{HoldsNames}
use Rattle.grid_taps.proofs.named.table_of.Given as goal

abbrev pub invariant-loop-item : goal.invariant-loop-item
invariant-loop-item g l = HoldsNames (map g.T.Named.name_of (take l.item-index l.items)) l.table

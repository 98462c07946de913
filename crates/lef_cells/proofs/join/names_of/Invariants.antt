use Rattle.std.proofs.Common.{◌↔◌, ℕ, List, map, take, Contains}
use Rattle.lef_cells.proofs.join.names_of.Given as goal

-- The table has the names of the entries so far.
abbrev pub invariant-loop-entry : goal.invariant-loop-entry
invariant-loop-entry g l = (name : List ℕ) → Contains l.names name ↔ Contains (map g.T.HasName.name_of (take l.entry-index l.entries)) name

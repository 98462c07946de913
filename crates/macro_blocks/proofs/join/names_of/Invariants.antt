use Rattle.std.proofs.Common.{◌↔◌, ℕ, List, map, take, Contains}
use Rattle.macro_blocks.specs.Record.{name_of}
use Rattle.macro_blocks.proofs.join.names_of.Given as goal

-- The table has the names of the macros so far.
abbrev pub invariant-loop-cell : goal.invariant-loop-cell
invariant-loop-cell l = (name : List ℕ) → Contains l.names name ↔ Contains (map name_of (take l.cell-index l.macros)) name

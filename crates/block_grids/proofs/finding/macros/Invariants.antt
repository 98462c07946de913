use Rattle.std.proofs.Common.{◌≡◌, map, take}
use Rattle.lef_cells.specs.declared.record.MacroCell.{MacroCell}
use Rattle.block_grids.proofs.finding.macros.Given as goal

abbrev pub invariant-loop-cell : goal.invariant-loop-cell
invariant-loop-cell l = map (λ n. n.now) l.names.items ≡ map (λ (cell : MacroCell). cell.name) (take l.cell-index l.cells.macros)

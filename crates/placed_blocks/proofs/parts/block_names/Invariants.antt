use Rattle.std.proofs.Common.{◌≡◌, map, take}
use Rattle.macro_blocks.specs.declared.record.BlockMacro.{BlockMacro}
use Rattle.placed_blocks.proofs.parts.block_names.Given as goal

abbrev pub invariant-loop-cell : goal.invariant-loop-cell
invariant-loop-cell l = map (λ n. n.now) l.names.items ≡ map (λ (m : BlockMacro). m.name) (take l.cell-index l.blocks.macros)

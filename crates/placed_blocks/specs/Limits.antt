-- What blocks in their places keep.
use Rattle.std.specs.Prelude.{◌≡◌, All, length}
use Rattle.lef_tech.specs.declared.tech.Tech.{Tech}
use Rattle.macro_turns.specs.Limits.{RectKeeps}
use Rattle.block_rects.specs.Limits.{PartKeeps, ObstructionKeeps}
use Rattle.placed_blocks.specs.declared.block.PlacedBlock.{PlacedBlock}

pub record BlockKeeps (tech : Tech) (block : PlacedBlock) : Type 0 where
  pub outline : RectKeeps block.outline
  pub grown : RectKeeps block.grown
  pub pins : All (PartKeeps tech) block.pins
  pub obstructions : All ObstructionKeeps block.obstructions
  pub cuts : length block.cuts ≡ length tech.routing

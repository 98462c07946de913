-- Whether a build is one over blocks, and the pins and obstructions of the macros of two LEF texts (LEF/DEF 5.8 Language Reference,
-- "MACRO", PIN and OBS).
use Rattle.std.specs.Prelude.{◌≡◌, ◌⊎◌, ℕ, Bool, List, Ok}
use Rattle.answers.specs.declared.answer.Answer.{Answer}
use Rattle.answers.specs.declared.answer.Answer.TheVariants.{Want}
use Rattle.block_grids.specs.Blocks.{have_blocks}
use Rattle.building.specs.declared.records.Records.{Records}
use Rattle.building.specs.Inputs.{FileText}
use Rattle.building.specs.Reading.{IsRefused, HasRecord}
use Rattle.lef_cells.specs.Join.{joined}
use Rattle.macro_blocks.specs.declared.record.Blocks.{Blocks}
use Rattle.macro_blocks.specs.Format.{ReadsBlocks}
use Rattle.macro_blocks.specs.Record.{name_of}
use Rattle.macro_building.specs.Kinds.{blocks_kind}

-- A grid over macros stands in the script, and a block in the design: a placed component whose macro is of CLASS BLOCK.
abbrev pub is_over_blocks : Records → Bool
is_over_blocks r = have_blocks r.cells r.design r.script

-- The pins and obstructions of two LEF texts: those of the macros of the first, and then those of the macros of the second whose names
-- the first has not.
pub record AreBlocksOf (lef other : List ℕ) (blocks : Blocks) : Type 0 where
  pub first : Blocks
  pub second : Blocks
  pub first_reads : ReadsBlocks lef (Ok first)
  pub second_reads : ReadsBlocks other (Ok second)
  pub macros : blocks.macros ≡ joined name_of first.macros second.macros

-- Why two texts give none: memory ran out, the first is refused, or the second is and the first is not.
abbrev pub AreBlocksRefused : (lef other : FileText) → Answer → Type 0
AreBlocksRefused lef other answer =
    (answer ≡ Want)
    ⊎ (IsRefused ReadsBlocks blocks_kind lef answer
    ⊎ (HasRecord ReadsBlocks lef × IsRefused ReadsBlocks blocks_kind other answer))

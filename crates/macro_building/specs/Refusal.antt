-- Why nothing is built of five texts, whether over blocks or not.
use Rattle.std.specs.Prelude.{◌≡◌, ◌⊎◌, ℕ, true, false, List, Some, slice_get}
use Rattle.answers.specs.declared.answer.Answer.{Answer}
use Rattle.answers.specs.declared.answer.Answer.TheVariants.{Unsupplied}
use Rattle.building.specs.declared.records.Records.{Records}
use Rattle.building.specs.Inputs.{FiveTexts}
use Rattle.building.specs.Reading.{AreRecords, IsUnread}
use Rattle.building.specs.Refusal.{extract_answer, IsUnbuilt as IsPlainUnbuilt}
use Rattle.grid_net.specs.Level.{IsFirstUnsupplied}
use Rattle.grid_network.specs.declared.error.ExtractError.{ExtractError}
use Rattle.grid_network.specs.declared.extracted.Extracted.{Extracted}
use Rattle.macro_blocks.specs.declared.record.Blocks.{Blocks}
use Rattle.macro_extract.specs.Extraction.{IsMacroExtracted, IsMacroExtractRefused}
use Rattle.macro_grid.specs.declared.error.MacroError.{MacroError}
use Rattle.macro_grid.specs.declared.record.MacroGrid.{MacroGrid}
use Rattle.macro_grid.specs.Drawing.{IsMacroDrawing, IsMacroRefused}
use Rattle.macro_building.specs.Blocks.{is_over_blocks, AreBlocksOf, AreBlocksRefused}
use Rattle.macro_building.specs.Words.{macro_answer}

-- The texts have their records, and no grid over macros meets a block.
pub record HasNoBlocks (t : FiveTexts) : Type 0 where
  pub records : Records
  pub reads : AreRecords t records
  pub none : is_over_blocks records ≡ false

-- The texts have their records, a grid over macros meets a block, and the pins of the LEF texts are not read.
pub record HasNoPins (t : FiveTexts) (answer : Answer) : Type 0 where
  pub records : Records
  pub reads : AreRecords t records
  pub some : is_over_blocks records ≡ true
  pub refused : AreBlocksRefused t.lef t.cells answer

-- They are, and the script draws no grid over the design and its blocks.
pub record DrawsNoGrid (t : FiveTexts) (answer : Answer) : Type 0 where
  pub records : Records
  pub reads : AreRecords t records
  pub some : is_over_blocks records ≡ true
  pub blocks : Blocks
  pub are_blocks : AreBlocksOf t.lef.text t.cells.text blocks
  pub error : MacroError
  pub refused : IsMacroRefused records.tech records.cells blocks records.design records.script error
  pub told : answer ≡ macro_answer records error

-- The grid of the texts over the blocks of the design.
pub record Draws (t : FiveTexts) (records : Records) (drawn : MacroGrid) : Type 0 where
  pub reads : AreRecords t records
  pub some : is_over_blocks records ≡ true
  pub blocks : Blocks
  pub are_blocks : AreBlocksOf t.lef.text t.cells.text blocks
  pub is_drawing : IsMacroDrawing records.tech records.cells blocks records.design records.script drawn

-- The grid is drawn, and no network is extracted from it.
pub record HasNoNetwork (t : FiveTexts) (answer : Answer) : Type 0 where
  pub records : Records
  pub drawn : MacroGrid
  pub draws : Draws t records drawn
  pub error : ExtractError
  pub refused : IsMacroExtractRefused drawn records.tech records.cells records.design records.bias error
  pub told : answer ≡ extract_answer records drawn.grid error

-- The network is extracted, and no chain of resistors joins this node to a pad: it is the first one.
pub record LacksSupply (t : FiveTexts) (answer : Answer) : Type 0 where
  pub records : Records
  pub drawn : MacroGrid
  pub draws : Draws t records drawn
  pub extracted : Extracted
  pub network : IsMacroExtracted drawn records.tech records.cells records.design records.bias extracted
  pub node : ℕ
  pub first : IsFirstUnsupplied extracted.net node
  pub name : List ℕ
  pub named_so : slice_get extracted.names node ≡ Some name
  pub told : answer ≡ Unsupplied name

-- Why nothing is built over blocks, in the order of the work.
abbrev pub IsUnbuiltOverBlocks : FiveTexts → Answer → Type 0
IsUnbuiltOverBlocks t answer = HasNoPins t answer ⊎ (DrawsNoGrid t answer ⊎ (HasNoNetwork t answer ⊎ LacksSupply t answer))

-- Why nothing is built; memory may run out at any time. Where no grid over macros meets a block it is as without blocks.
abbrev pub IsUnbuilt : FiveTexts → Answer → Type 0
IsUnbuilt t answer =
    IsUnread t answer ⊎ ((HasNoBlocks t × IsPlainUnbuilt t answer) ⊎ IsUnbuiltOverBlocks t answer)

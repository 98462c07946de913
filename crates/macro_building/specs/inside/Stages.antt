-- What the stages of a build over blocks hand on.
use Rattle.std.specs.Prelude.{◌≡◌, ◌≤◌, ◌⊎◌, ℤ, List, Option, All, length}
use Rattle.answers.specs.declared.answer.Answer.{Answer}
use Rattle.answers.specs.declared.answer.Answer.TheVariants.{Want}
use Rattle.building.specs.declared.outputs.Outputs.{Outputs}
use Rattle.building.specs.declared.records.Records.{Records}
use Rattle.building.specs.Building.{base_of}
use Rattle.building.specs.Checked.{PassesCheck}
use Rattle.building.specs.Inputs.{FiveTexts}
use Rattle.building.specs.Refusal.{extract_answer}
use Rattle.building.specs.Stages.{outputs_of}
use Rattle.grid_network.specs.declared.error.ExtractError.{ExtractError}
use Rattle.grid_network.specs.declared.extracted.Extracted.{Extracted}
use Rattle.grid_shapes.specs.Drawing.{PieceStands, StackStands}
use Rattle.grid_signing.specs.declared.signed.SignedGrid.{SignedGrid}
use Rattle.grid_signing.specs.Checked.{SignsWith}
use Rattle.grid_signing.specs.Refusal.{LacksSupplyAt}
use Rattle.grid_signing.specs.Solutions.{SolutionsKeep}
use Rattle.macro_blocks.specs.declared.record.Blocks.{Blocks}
use Rattle.macro_extract.specs.Extraction.{IsMacroExtracted, IsMacroExtractRefused}
use Rattle.macro_grid.specs.declared.error.MacroError.{MacroError}
use Rattle.macro_grid.specs.declared.record.MacroGrid.{MacroGrid}
use Rattle.macro_grid.specs.Drawing.{IsMacroDrawing, IsMacroRefused}
use Rattle.macro_building.specs.Built.{BuiltDesign, IsBuiltDesign, AreBuiltOutputs}
use Rattle.macro_building.specs.Words.{macro_answer}

-- The grid is the drawing of the script over the design and its blocks.
abbrev pub IsDrawn : Records → Blocks → MacroGrid → Type 0
IsDrawn r blocks drawn = IsMacroDrawing r.tech r.cells blocks r.design r.script drawn

-- Its pieces and stacks stand, and there are not too many.
pub record DrawnStands (r : Records) (drawn : MacroGrid) : Type 0 where
  pub pieces : All (PieceStands r.tech drawn.grid) drawn.grid.pieces
  pub stacks : All (StackStands r.tech drawn.grid) drawn.grid.stacks
  pub few_pieces : length drawn.grid.pieces ≤ 4000000
  pub few_stacks : length drawn.grid.stacks ≤ 1000000

-- There is none: memory ran out, or the script draws none.
abbrev pub IsUndrawn : Records → Blocks → Answer → Type 0
IsUndrawn r blocks answer = (answer ≡ Want)
    ⊎ ((error : MacroError) × IsMacroRefused r.tech r.cells blocks r.design r.script error × (answer ≡ macro_answer r error))

-- The network of the grid.
abbrev pub IsNetworkOver : Records → MacroGrid → Extracted → Type 0
IsNetworkOver r drawn e = IsMacroExtracted drawn r.tech r.cells r.design r.bias e

-- A drawn grid is signed off and written.
pub record BuildsDrawn (told : Option (List ℤ × List ℤ)) (r : Records) (drawn : MacroGrid) (outputs : Outputs) : Type 0 where
  pub signed : SignedGrid
  pub signs : SignsWith (IsNetworkOver r drawn) told (base_of r) drawn.grid signed
  pub are : outputs ≡ outputs_of r drawn.written signed

-- It is not.
abbrev pub IsUnsigned : Records → MacroGrid → Answer → Type 0
IsUnsigned r drawn answer =
    ((answer ≡ Want)
    ⊎ ((error : ExtractError) × IsMacroExtractRefused drawn r.tech r.cells r.design r.bias error
    × (answer ≡ extract_answer r drawn.grid error)))
    ⊎ ((e : Extracted) × IsNetworkOver r drawn e × LacksSupplyAt e answer)

-- Records and blocks are built.
abbrev pub BuildsOver : Option (List ℤ × List ℤ) → Records → Blocks → Outputs → Type 0
BuildsOver told r blocks outputs = (drawn : MacroGrid) × IsDrawn r blocks drawn × BuildsDrawn told r drawn outputs

-- They are not.
abbrev pub IsUnbuiltOver : Records → Blocks → Answer → Type 0
IsUnbuiltOver r blocks answer = IsUndrawn r blocks answer ⊎ ((drawn : MacroGrid) × IsDrawn r blocks drawn × IsUnsigned r drawn answer)

-- What is said of the outputs of a build.
abbrev pub IsBuilt : Option (List ℤ × List ℤ) → FiveTexts → Outputs → Type 0
IsBuilt told t outputs = (d : BuiltDesign) × IsBuiltDesign told t d × AreBuiltOutputs d outputs
    × SolutionsKeep d.design.extracted.net d.design.certificate d.design.limits × PassesCheck d.design outputs

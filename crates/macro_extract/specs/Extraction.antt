-- The network of a grid over blocks (LEF/DEF 5.8 Language Reference, "MACRO", PIN): that of all its pieces, the pins of blocks among
-- them, with the pads of the bias file and the load taps of the components on pins and on rails.
use Rattle.std.specs.Prelude.{All, ◌<◌, length}
use Rattle.lef_tech.specs.declared.tech.Tech.{Tech}
use Rattle.lef_cells.specs.declared.record.Cells.{Cells}
use Rattle.def_design.specs.declared.record.Design.{Design}
use Rattle.bias_file.specs.declared.record.Bias.{Bias}
use Rattle.grid_extract.specs.Extraction.{GridKeeps, IsExtractedWith, IsExtractRefusedWith}
use Rattle.grid_network.specs.declared.error.ExtractError.{ExtractError}
use Rattle.grid_network.specs.declared.extracted.Extracted.{Extracted}
use Rattle.macro_grid.specs.declared.record.MacroGrid.{MacroGrid}
use Rattle.pin_pieces.specs.declared.pin.PinPiece.{PinPiece}
use Rattle.pin_taps.specs.Taps.{AreMacroTaps, IsMacroLoadOff}

-- What is asked of the grid: what is asked of one without blocks, and that the pieces with metal of pins are among its pieces.
pub record DrawnKeeps (drawn : MacroGrid) (tech : Tech) : Type 0 where
  pub grid : GridKeeps drawn.grid tech
  pub pins : All (λ (pin : PinPiece). pin.piece < length drawn.grid.pieces) drawn.pins

-- The network.
abbrev pub IsMacroExtracted : MacroGrid → Tech → Cells → Design → Bias → Extracted → Type 0
IsMacroExtracted drawn tech cells design bias e = IsExtractedWith (IsMacroLoadOff drawn cells bias design.components)
    (AreMacroTaps drawn cells bias design.components) drawn.grid tech cells design bias e

-- Why there is none: the causes of a grid without blocks, in their order, where a block that draws a current has to be fed by pins.
abbrev pub IsMacroExtractRefused : MacroGrid → Tech → Cells → Design → Bias → ExtractError → Type 0
IsMacroExtractRefused drawn tech cells design bias error =
    IsExtractRefusedWith (IsMacroLoadOff drawn cells bias design.components) (AreMacroTaps drawn cells bias design.components)
    drawn.grid tech cells design bias error

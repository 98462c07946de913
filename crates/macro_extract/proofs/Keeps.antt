-- What is asked of the grid of which a network is extracted is what is asked of it where load taps are found.
use Rattle.std.proofs.Common.{List}
use Rattle.lef_tech.specs.declared.tech.Tech.{Tech}
use Rattle.lef_tech.specs.Limits.{TechKeeps}
use Rattle.lef_cells.specs.declared.record.Cells.{Cells}
use Rattle.def_design.specs.declared.record.Component.{Component}
use Rattle.bias_file.specs.declared.record.Bias.{Bias}
use Rattle.bias_file.specs.Limits.{BiasKeeps}
use Rattle.grid_network.specs.declared.pad.PadOn.{PadOn}
use Rattle.grid_network.specs.declared.pad.Tap.{Tap}
use Rattle.grid_network.specs.Asked.{IsDrawing}
use Rattle.grid_taps.specs.Pads.{ArePads}
use Rattle.grid_extract.specs.Extraction.{drawing_of}
use Rattle.grid_extract.specs.Laws.OnPieces.{is_drawing_with}
use Rattle.macro_grid.specs.declared.record.MacroGrid.{MacroGrid}
use Rattle.pin_taps.specs.Keeping.{MacroGridKeeps}
use Rattle.pin_taps.specs.Taps.{AreMacroTaps}
use Rattle.macro_extract.specs.Extraction.{DrawnKeeps}
use Rattle.macro_extract.proofs.OnPins.{macro_taps_lie}

pub grid_keeps : (drawn : MacroGrid) (tech : Tech) → DrawnKeeps drawn tech → MacroGridKeeps drawn
grid_keeps drawn tech keeps = record {
  units = keeps.grid.units;
  pieces = λ k d within. (keeps.grid.pieces k d within).keeps;
  few_pieces = keeps.grid.few_pieces;
  pins = keeps.pins;
}

-- The grid with pads of the bias file and the load taps of the components is a drawing.
pub is_drawing : (drawn : MacroGrid) (tech : Tech) (cells : Cells) (bias : Bias) (components : List Component) (pads : List PadOn) (taps : List Tap)
    → TechKeeps tech → DrawnKeeps drawn tech → BiasKeeps bias → ArePads drawn.grid tech bias pads → AreMacroTaps drawn cells bias components taps
    → IsDrawing (drawing_of drawn.grid pads taps) tech
is_drawing drawn tech cells bias components pads taps tech_keeps keeps bias_keeps pads_are taps_are =
    is_drawing_with drawn.grid tech bias pads taps tech_keeps keeps.grid pads_are
    (macro_taps_lie drawn (grid_keeps drawn tech keeps) cells bias bias_keeps components taps taps_are)

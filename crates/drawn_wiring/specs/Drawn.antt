-- What was read, and what is drawn of it.
use Rattle.std.specs.Prelude.{◌≤◌, ℕ, List, All, length, Ok}
use Rattle.lef_tech.specs.declared.tech.Tech.{Tech}
use Rattle.lef_tech.specs.Format.{ReadsTech}
use Rattle.lef_tech.specs.Limits.{TechKeeps}
use Rattle.lef_cells.specs.declared.record.Cells.{Cells}
use Rattle.lef_cells.specs.Limits.{CellsKeep}
use Rattle.def_design.specs.declared.record.Design.{Design}
use Rattle.def_design.specs.Format.{ReadsDesign}
use Rattle.def_design.specs.Limits.{DesignKeeps}
use Rattle.pdn_script.specs.declared.record.Script.{Script}
use Rattle.pdn_script.specs.Limits.{ScriptKeeps}
use Rattle.grid_pieces.specs.declared.grid.Grid.{Grid}
use Rattle.grid_shapes.specs.Drawing.{IsDrawingOf, PieceStands, StackStands}
use Rattle.grid_stacks.specs.Stacking.{most_pieces, most_stacks}

-- The technology is that of a text and the design that of another, and all four keep what their readers ensure.
pub record AreRead (tech : Tech) (cells : Cells) (design : Design) (script : Script) : Type 0 where
  pub tech_text : List ℕ
  pub is_tech : ReadsTech tech_text (Ok tech)
  pub tech_keeps : TechKeeps tech
  pub cells_keep : CellsKeep cells
  pub design_text : List ℕ
  pub is_design : ReadsDesign design_text (Ok design)
  pub design_keeps : DesignKeeps design
  pub script_keeps : ScriptKeeps script

-- The grid is the drawing, with what the drawing ensures of it: its pieces and stacks stand, and are not too many.
pub record IsDrawn (tech : Tech) (cells : Cells) (design : Design) (script : Script) (grid : Grid) : Type 0 where
  pub is : IsDrawingOf tech cells design script grid
  pub pieces : All (PieceStands tech grid) grid.pieces
  pub stacks : All (StackStands tech grid) grid.stacks
  pub few_pieces : length grid.pieces ≤ most_pieces
  pub few_stacks : length grid.stacks ≤ most_stacks

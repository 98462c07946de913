-- A grid over a plan and blocks in their places.
use Rattle.std.specs.Prelude.{◌≡◌, List}
use Rattle.lef_tech.specs.declared.tech.Tech.{Tech}
use Rattle.grid_pieces.specs.declared.grid.Grid.{Grid}
use Rattle.grid_pieces.specs.declared.piece.Piece.{Piece}
use Rattle.grid_pieces.specs.declared.piece.StackAt.{StackAt}
use Rattle.grid_plan.specs.declared.record.Plan.{Plan}
use Rattle.grid_shapes.specs.Drawing.{NothingTouches}
use Rattle.placed_blocks.specs.declared.block.PlacedBlock.{PlacedBlock}
use Rattle.pin_pieces.specs.Pins.{ArePinPieces}
use Rattle.macro_grid.specs.declared.record.MacroGrid.{MacroGrid}
use Rattle.macro_grid.specs.Drawing.{AreMacroPieces, AreMacroStacks, IsOfPlan}

-- The grid has what the plan, the pieces and the stacks are.
pub record IsGridWith (plan : Plan) (of_pieces : List Piece) (of_stacks : List StackAt) (grid : Grid) : Type 0 where
  pub of_plan : IsOfPlan plan grid
  pub pieces : grid.pieces ≡ of_pieces
  pub stacks : grid.stacks ≡ of_stacks

-- The drawing over a plan and blocks in their places.
pub record IsDrawn (tech : Tech) (plan : Plan) (placed : List PlacedBlock) (drawn : MacroGrid) : Type 0 where
  pub grid_is : IsOfPlan plan drawn.grid
  pub written_is : IsOfPlan plan drawn.written
  pub pieces : AreMacroPieces tech plan placed drawn.written.pieces drawn.grid.pieces
  pub stacks : AreMacroStacks tech plan placed drawn.grid.pieces drawn.grid.stacks
  pub apart : NothingTouches drawn.grid.pieces drawn.grid.stacks
  pub written_stacks : drawn.written.stacks ≡ drawn.grid.stacks
  pub pins : ArePinPieces tech plan.domains placed drawn.grid.pieces drawn.pins

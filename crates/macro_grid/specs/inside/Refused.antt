-- Why there is no plan with blocks in their places, and why nothing is drawn over them.
use Rattle.std.specs.Prelude.{◌≡◌, ◌⊎◌, ℕ, List, Some}
use Rattle.lef_cells.specs.declared.record.Cells.{Cells}
use Rattle.lef_tech.specs.declared.tech.Tech.{Tech}
use Rattle.def_design.specs.declared.record.Design.{Design}
use Rattle.pdn_script.specs.declared.record.Script.{Script}
use Rattle.grid_pieces.specs.declared.error.Counted.TheVariants.{Lines}
use Rattle.grid_pieces.specs.declared.error.DrawError.{DrawError}
use Rattle.grid_pieces.specs.declared.error.DrawError.TheVariants.{TooMany, Touch, Want}
use Rattle.grid_pieces.specs.declared.piece.Piece.{Piece}
use Rattle.grid_pieces.specs.declared.piece.StackAt.{StackAt}
use Rattle.grid_pieces.specs.Touch.{metal, IsFirstTouch}
use Rattle.grid_stacks.specs.Crossing.{Stands}
use Rattle.grid_stacks.specs.Stacking.{AreRefused}
use Rattle.grid_plan.specs.declared.record.Plan.{Plan}
use Rattle.block_grids.specs.Halo.{first_bad}
use Rattle.placed_blocks.specs.declared.block.PlacedBlock.{PlacedBlock}
use Rattle.macro_shapes.specs.Shapes.{MacroLinesAreMany}
use Rattle.macro_grid.specs.declared.error.MacroError.{MacroError}
use Rattle.macro_grid.specs.declared.error.MacroError.TheVariants.{Halo, Draw}
use Rattle.macro_grid.specs.Drawing.{all_blocks, AreMacroPieces, AreMacroStacks, HasNoPlan}

-- A halo is none, or there was not enough memory.
abbrev pub IsHaloRefused : ℕ → Script → MacroError → Type 0
IsHaloRefused units script (Halo grid) = first_bad units script ≡ Some grid
IsHaloRefused units script (Draw error) = error ≡ Want

-- A halo is none, there is no plan, or there was not enough memory.
abbrev pub IsUnlaid : Tech → Cells → Design → Script → MacroError → Type 0
IsUnlaid tech cells design script (Halo grid) = first_bad design.units script ≡ Some grid
IsUnlaid tech cells design script (Draw error) = (error ≡ Want) ⊎ HasNoPlan tech cells design script error

-- All pieces have no stacks, or metal touches.
abbrev pub IsUnjoined : Tech → Plan → List PlacedBlock → List Piece → DrawError → Type 0
IsUnjoined tech plan placed pieces Want = Unit {0}
IsUnjoined tech plan placed pieces (Touch touching) = (stacks : List StackAt)
    × AreMacroStacks tech plan placed pieces stacks × IsFirstTouch (metal pieces stacks) touching
IsUnjoined tech plan placed pieces error =
    AreRefused (Stands tech pieces plan.connects (all_blocks tech plan placed)) tech plan.units pieces error

-- There are pieces, and they are not joined.
pub record HasUnjoined (tech : Tech) (plan : Plan) (placed : List PlacedBlock) (error : DrawError) : Type 0 where
  pub straps : List Piece
  pub pieces : List Piece
  pub are_pieces : AreMacroPieces tech plan placed straps pieces
  pub unjoined : IsUnjoined tech plan placed pieces error

-- A command draws more lines than it may, or pieces are not joined.
abbrev pub IsUndrawn : Tech → Plan → List PlacedBlock → DrawError → Type 0
IsUndrawn tech plan placed Want = Unit {0}
IsUndrawn tech plan placed (TooMany Lines) = MacroLinesAreMany plan placed
IsUndrawn tech plan placed error = HasUnjoined tech plan placed error

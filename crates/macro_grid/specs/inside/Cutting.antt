-- The pieces of a grid, before they are joined.
use Rattle.std.specs.Prelude.{◌≡◌, List, ◌++◌, AllPairs}
use Rattle.std.specs.List.Sorted.{IsPermutation}
use Rattle.geom_rect.specs.declared.drawn.Drawn.{Drawn}
use Rattle.lef_tech.specs.declared.tech.Tech.{Tech}
use Rattle.grid_pieces.specs.declared.piece.Block.{Block}
use Rattle.grid_pieces.specs.declared.piece.Piece.{Piece}
use Rattle.grid_pieces.specs.Piece.{ArePieces}
use Rattle.grid_stacks.specs.Stacking.{LieApart}
use Rattle.grid_plan.specs.declared.record.Plan.{Plan}
use Rattle.placed_blocks.specs.declared.block.PlacedBlock.{PlacedBlock}
use Rattle.macro_shapes.specs.Shapes.{AreMacroShapes}
use Rattle.macro_grid.specs.declared.cutting.Cut.{Cut}
use Rattle.macro_grid.specs.Drawing.{all_blocks, AreMacroPieces}

-- The pieces into which blockages cut straps, rails and rings.
pub record AreStraps (plan : Plan) (placed : List PlacedBlock) (blocks : List Block) (straps : List Piece) : Type 0 where
  pub shapes : List Drawn
  pub are_shapes : AreMacroShapes plan placed shapes
  pub are_straps : ArePieces shapes blocks straps

-- All blockages, and all pieces, which come from two lists, in each of which pieces of one line lie apart.
pub record IsCut (tech : Tech) (plan : Plan) (placed : List PlacedBlock) (cut : Cut) : Type 0 where
  pub blocks : cut.blocks.items ≡ all_blocks tech plan placed
  pub pieces : AreMacroPieces tech plan placed cut.straps.items cut.pieces.items
  pub both : IsPermutation (cut.straps.items ++ cut.pins.items) cut.pieces.items
  pub straps_apart : AllPairs LieApart cut.straps.items
  pub pins_apart : AllPairs LieApart cut.pins.items

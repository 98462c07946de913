-- The shapes of all grids over a design with blocks (OpenROAD PDN manual, define_pdn_grid: -macro, -halo).
use Rattle.std.specs.Prelude.{◌≡◌, ◌≢◌, ◌⊎◌, ℕ, List, All, ◌++◌, map, filter, Some}
use Rattle.geom_rect.specs.declared.drawn.Drawn.{Drawn}
use Rattle.geom_rect.specs.declared.rect.Rect.{Rect}
use Rattle.grid_plan.specs.declared.record.Plan.{Plan}
use Rattle.grid_shapes.specs.Shapes.{AreShapes, LinesAreMany}
use Rattle.placed_blocks.specs.declared.block.PlacedBlock.{PlacedBlock}
use Rattle.halo_cuts.specs.declared.shape.GridShape.{GridShape}
use Rattle.halo_cuts.specs.Cut.{cuts_on, AreCut}
use Rattle.block_stripes.specs.Blocks.{boxes_in, of_grid}
use Rattle.block_stripes.specs.Straps.{AreBlockStraps, StrapsAreMany}
use Rattle.block_stripes.specs.Rings.{block_rings, AreFew, RingsAreMany}

-- It stands in place of the grid of a shape that no grid over macros draws. No block may have it, so that every block cuts such a shape.
abbrev pub no_grid : ℕ
no_grid = 4294967295

abbrev pub IsOther : PlacedBlock → Type 0
IsOther block = block.grid ≢ Some no_grid

abbrev pub plain_shape : Drawn → GridShape
plain_shape line = record { grid = no_grid; shape = line }

-- The grown outlines of the blocks that cut on a layer, whatever grid they have.
abbrev pub halos_on : List PlacedBlock → ℕ → List Rect
halos_on blocks layer = map (λ (block : PlacedBlock). block.grown) (filter (λ (block : PlacedBlock). cuts_on block.cuts layer) blocks)

-- The whole shapes of a design with blocks: those of the grids that are not over macros, then the straps of grids over macros, then
-- their rings. No ring has more lines than one command may have.
pub record AreWhole (plan : Plan) (blocks : List PlacedBlock) (plain : List Drawn) (straps rings : List GridShape) : Type 0 where
  pub of_plain : AreShapes plan plain
  pub of_straps : AreBlockStraps plan (boxes_in blocks) straps
  pub of_rings : rings ≡ block_rings plan (boxes_in blocks)
  pub few : All (AreFew plan (boxes_in blocks)) plan.rings
  pub others : All IsOther blocks

-- The shapes: what the halos of the blocks leave of the whole ones, each cut by the blocks that have not the grid that drew it.
pub record AreMacroShapes (plan : Plan) (blocks : List PlacedBlock) (shapes : List Drawn) : Type 0 where
  pub plain : List Drawn
  pub straps : List GridShape
  pub rings : List GridShape
  pub whole : AreWhole plan blocks plain straps rings
  pub cut : AreCut blocks (of_grid no_grid plain ++ straps ++ rings) shapes

-- A command draws more lines than it may, one of a grid over macros over all blocks together.
abbrev pub MacroLinesAreMany : Plan → List PlacedBlock → Type 0
MacroLinesAreMany plan blocks =
    LinesAreMany plan ⊎ StrapsAreMany plan (boxes_in blocks) ⊎ RingsAreMany plan (boxes_in blocks)

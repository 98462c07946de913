-- The blocks of grids over macros, and the shapes that a grid draws.
use Rattle.std.specs.Prelude.{ℕ, ◌^◌, List, All, map, filter, Option}
use Rattle.std.specs.Bool.{nat_eq}
use Rattle.std.specs.List.{filter_map}
use Rattle.std.specs.Option.{option_map}
use Rattle.geom_rect.specs.declared.drawn.Drawn.{Drawn}
use Rattle.geom_rect.specs.declared.rect.Rect.{Rect}
use Rattle.lef_tech.specs.declared.tech.Tech.{Tech}
use Rattle.grid_plan.specs.declared.record.Plan.{Plan}
use Rattle.grid_plan.specs.Keeping.{LiesNear}
use Rattle.grid_shapes.specs.inside.Sites.{ShapeKeeps}
use Rattle.placed_blocks.specs.declared.block.PlacedBlock.{PlacedBlock}
use Rattle.block_stripes.specs.declared.blocks.BlockBox.{BlockBox}
use Rattle.halo_cuts.specs.declared.shape.GridShape.{GridShape}

-- The box of a block that has a grid, and those of all that have one, in their order.
abbrev pub box_of : PlacedBlock → Option BlockBox
box_of block = option_map (λ (grid : ℕ). record { grid = grid; outline = block.outline }) block.grid

abbrev pub boxes_in : List PlacedBlock → List BlockBox
boxes_in blocks = filter_map box_of blocks

-- What a block keeps: its box is in order and lies near 0.
abbrev pub BoxKeeps : BlockBox → Type 0
BoxKeeps block = LiesNear (2 ^ 40) block.outline

-- The boxes of the blocks that have a grid, in their order.
abbrev pub boxes_of : List BlockBox → ℕ → List Rect
boxes_of blocks grid = map (λ (block : BlockBox). block.outline) (filter (λ (block : BlockBox). nat_eq block.grid grid) blocks)

-- Lines as shapes of a grid.
abbrev pub of_grid : ℕ → List Drawn → List GridShape
of_grid grid lines = map (λ (line : Drawn). record { grid = grid; shape = line }) lines

-- All shapes keep what those of a plan keep: their limits, and that their nets and layers stand, along whose direction they go.
abbrev pub ShapesKeep : Tech → Plan → List GridShape → Type 0
ShapesKeep tech plan shapes = All (λ (s : GridShape). ShapeKeeps tech plan s.shape) shapes

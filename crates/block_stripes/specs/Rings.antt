-- The rings that grids over macros draw around blocks (OpenROAD PDN manual, define_pdn_grid: -macro, add_pdn_ring).
use Rattle.std.specs.Prelude.{◌≡◌, ℕ, ◌<◌, ◌≤◌, ◌*◌, true, List, Contains, length, filter}
use Rattle.std.specs.Bool.{nat_eq}
use Rattle.std.specs.List.{flat_map, range_with_len}
use Rattle.geom_rect.specs.declared.rect.Rect.{Rect}
use Rattle.ring_layout.specs.Rings.{rings_of}
use Rattle.grid_plan.specs.declared.record.Plan.{Plan}
use Rattle.grid_plan.specs.declared.record.RingAt.{RingAt}
use Rattle.grid_shapes.specs.Shapes.{most_lines}
use Rattle.grid_shapes.specs.Site.{grid_of}
use Rattle.block_stripes.specs.declared.blocks.BlockBox.{BlockBox}
use Rattle.halo_cuts.specs.declared.shape.GridShape.{GridShape}
use Rattle.block_stripes.specs.Blocks.{boxes_of, of_grid}

-- The sides of a ring around a box.
abbrev pub ring_over : RingAt → Rect → List GridShape
ring_over ring box = of_grid ring.grid (rings_of ring.rule box)

-- Those around the blocks that have its grid, block after block.
abbrev pub ring_shapes : List BlockBox → RingAt → List GridShape
ring_shapes blocks ring = flat_map (ring_over ring) (boxes_of blocks ring.grid)

-- Those of a grid.
abbrev pub grid_rings : Plan → List BlockBox → ℕ → List GridShape
grid_rings plan blocks grid = flat_map (ring_shapes blocks) (filter (λ (ring : RingAt). nat_eq ring.grid grid) plan.rings)

-- Those of all grids over macros, in the order of the grids.
abbrev pub block_rings : Plan → List BlockBox → List GridShape
block_rings plan blocks = flat_map (grid_rings plan blocks)
    (filter (λ (grid : ℕ). (grid_of plan grid).over_macros) (range_with_len 0 (length plan.grids)))

-- How many lines a ring has, around all blocks that have its grid: four of each net around each.
abbrev pub ring_lines : List BlockBox → RingAt → ℕ
ring_lines blocks ring = 4 * (length ring.rule.nets * length (boxes_of blocks ring.grid))

-- A ring of a grid over macros has no more lines than one command may have.
abbrev pub AreFew : Plan → List BlockBox → RingAt → Type 0
AreFew plan blocks ring = (grid_of plan ring.grid).over_macros ≡ true → ring_lines blocks ring ≤ most_lines

-- One has more.
pub record RingsAreMany (plan : Plan) (blocks : List BlockBox) : Type 0 where
  pub ring : RingAt
  pub is : Contains plan.rings ring
  pub over_macros : (grid_of plan ring.grid).over_macros ≡ true
  pub more : most_lines < ring_lines blocks ring

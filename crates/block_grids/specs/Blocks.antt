-- The blocks of a design (LEF/DEF 5.8 Language Reference, "MACRO", CLASS BLOCK; "COMPONENTS", PLACED and FIXED).
use Rattle.std.specs.Prelude.{ℕ, ℤ, Bool, false, ◌&&◌, if◌then◌else◌, List, map, slice_index_or, Option, Some, None}
use Rattle.std.specs.List.{list_any, filter_map, enumerate_from}
use Rattle.std.specs.Option.{is_some}
use Rattle.geom_rect.specs.declared.direction.Orient.{Orient}
use Rattle.name_places.specs.Places.{place_of}
use Rattle.lef_cells.specs.declared.record.Cells.{Cells}
use Rattle.lef_cells.specs.declared.record.MacroCell.{MacroCell}
use Rattle.def_design.specs.declared.record.Component.{Component}
use Rattle.def_design.specs.declared.record.Design.{Design}
use Rattle.pdn_script.specs.declared.record.GridRule.{GridRule}
use Rattle.pdn_script.specs.declared.record.Script.{Script}
use Rattle.block_grids.specs.declared.block.BlockAt.{BlockAt}
use Rattle.block_grids.specs.Choice.{grid_of}

abbrev pub macro_names : Cells → List (List ℕ)
macro_names cells = map (λ (cell : MacroCell). cell.name) cells.macros

-- The macro at a place is of CLASS BLOCK.
abbrev pub is_block_cell : Cells → ℕ → Bool
is_block_cell cells place = slice_index_or (map (λ (cell : MacroCell). cell.block) cells.macros) place false

-- The place, where it is one of such a macro.
abbrev pub if_block : Cells → Option ℕ → Option ℕ
if_block cells None = None
if_block cells (Some place) = if is_block_cell cells place then Some place else None

-- The place of the macro of a component, where it is of CLASS BLOCK.
abbrev pub block_cell : Cells → Component → Option ℕ
block_cell cells component = if_block cells (place_of (macro_names cells) component.cell)

-- A component is a block: it is placed, and its macro is of CLASS BLOCK.
abbrev pub is_block : Cells → Component → Bool
is_block cells component = is_some component.place && is_some (block_cell cells component)

-- The block that a component with a number is, with its macro and its place, and with the grid that it has.
abbrev pub block_with : List GridRule → ℕ → Component → ℕ → ℤ × ℤ × Orient → BlockAt
block_with grids number component cell (x, y, orient) = record {
  component = number;
  cell = cell;
  x = x;
  y = y;
  orient = orient;
  grid = grid_of grids component.name component.cell orient;
}

abbrev pub block_at : List GridRule → ℕ → Component → Option ℕ → Option (ℤ × ℤ × Orient) → Option BlockAt
block_at grids number component None place = None
block_at grids number component (Some cell) None = None
block_at grids number component (Some cell) (Some place) = Some (block_with grids number component cell place)

-- The block that a component is, if it is one.
abbrev pub block_of : Cells → List GridRule → ℕ × Component → Option BlockAt
block_of cells grids (number, component) =
    block_at grids number component (block_cell cells component) component.place

-- Each component with its number, from 0.
abbrev pub numbered : List Component → List (ℕ × Component)
numbered components = enumerate_from 0 components

-- The blocks among the components, in their order.
abbrev pub blocks_in : Cells → Design → Script → List BlockAt
blocks_in cells design script = filter_map (block_of cells script.grids) (numbered design.components)

-- A grid over macros stands, and a component is a block.
abbrev pub have_blocks : Cells → Design → Script → Bool
have_blocks cells design script =
    list_any (λ (grid : GridRule). grid.macro_) script.grids && list_any (is_block cells) design.components

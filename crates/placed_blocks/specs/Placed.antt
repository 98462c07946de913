-- The blocks of a design in their places (LEF/DEF 5.8 Language Reference, "MACRO", SIZE, PIN and OBS, "COMPONENTS"; OpenROAD PDN
-- manual, define_pdn_grid: -macro, -halo).
use Rattle.std.specs.Prelude.{◌≡◌, ℕ, ◌<◌, ℤ, pos, ◌+ℤ◌, ◌-ℤ◌, false, List, [], map, length, slice_get, slice_index_or, Option, Some, None, MatchOption}
use Rattle.std.specs.Option.{unwrap_or}
use Rattle.entry_list.specs.InTurn.{InTurn}
use Rattle.name_places.specs.Places.{place_of}
use Rattle.geom_rect.specs.declared.rect.Rect.{Rect}
use Rattle.via_arrays.specs.Lengths.{in_units}
use Rattle.lef_cells.specs.declared.record.Cells.{Cells}
use Rattle.lef_cells.specs.declared.record.MacroCell.{MacroCell}
use Rattle.lef_tech.specs.declared.tech.Tech.{Tech}
use Rattle.def_design.specs.declared.record.Design.{Design}
use Rattle.pdn_script.specs.declared.record.GridRule.{GridRule}
use Rattle.pdn_script.specs.declared.record.Script.{Script}
use Rattle.grid_cores.specs.Owner.{owns_place, IsFirstOwner}
use Rattle.macro_blocks.specs.declared.record.BlockMacro.{BlockMacro}
use Rattle.macro_blocks.specs.declared.record.Blocks.{Blocks}
use Rattle.macro_turns.specs.declared.turned.Placed.{Placed}
use Rattle.macro_turns.specs.Turns.{box_in_place}
use Rattle.block_rects.specs.declared.part.Obstruction.{Obstruction}
use Rattle.block_rects.specs.declared.part.PinPart.{PinPart}
use Rattle.block_rects.specs.Placed.{parts_of, obstructions_of}
use Rattle.block_grids.specs.declared.block.BlockAt.{BlockAt}
use Rattle.block_grids.specs.declared.halo.Halo.{Halo}
use Rattle.block_grids.specs.Blocks.{macro_names, blocks_in}
use Rattle.block_grids.specs.Halo.{no_halo, grid_halo}
use Rattle.placed_blocks.specs.declared.block.PlacedBlock.{PlacedBlock}
use Rattle.placed_blocks.specs.Cuts.{cuts_of}

-- ## the outline

-- The size of the macro at a place, in pm.
abbrev pub width_at : Cells → ℕ → ℕ
width_at cells cell = slice_index_or (map (λ (m : MacroCell). m.width) cells.macros) cell 0

abbrev pub height_at : Cells → ℕ → ℕ
height_at cells cell = slice_index_or (map (λ (m : MacroCell). m.height) cells.macros) cell 0

-- How the macro of a block is placed; its size is rounded down to units.
abbrev pub placed_at : Cells → ℕ → BlockAt → Placed
placed_at cells units at = record {
  corner = record { x = at.x; y = at.y };
  orient = at.orient;
  width = pos (in_units units (width_at cells at.cell));
  height = pos (in_units units (height_at cells at.cell));
}

-- The halos of all grids, where each has one.
abbrev pub halos_of : ℕ → List GridRule → List Halo
halos_of units grids = map (λ (grid : GridRule). unwrap_or (grid_halo units grid) no_halo) grids

-- That of the grid at a place. A block without a grid keeps nothing away.
abbrev pub halo_at : List Halo → Option ℕ → Halo
halo_at halos None = no_halo
halo_at halos (Some grid) = slice_index_or halos grid no_halo

-- A rectangle with each side further out by a halo.
abbrev pub grown_by : Halo → Rect → Rect
grown_by halo rect = record {
  x1 = rect.x1 -ℤ halo.left;
  y1 = rect.y1 -ℤ halo.bottom;
  x2 = rect.x2 +ℤ halo.right;
  y2 = rect.y2 +ℤ halo.top;
}

-- ## pins and obstructions

abbrev pub block_names : Blocks → List (List ℕ)
block_names blocks = map (λ (m : BlockMacro). m.name) blocks.macros

-- The name of the macro at a place, and its place among other names.
abbrev pub name_at : Cells → ℕ → Option (List ℕ)
name_at cells cell = slice_get (macro_names cells) cell

abbrev pub macro_place : List (List ℕ) → Option (List ℕ) → Option ℕ
macro_place names None = None
macro_place names (Some name) = place_of names name

abbrev pub macro_at : List BlockMacro → Option ℕ → Option BlockMacro
macro_at macros None = None
macro_at macros (Some place) = slice_get macros place

-- The pins and the obstructions of a macro are those of the first macro of its name among the blocks. One whose name stands nowhere has none.
abbrev pub macro_of : Cells → Blocks → ℕ → Option BlockMacro
macro_of cells blocks cell = macro_at blocks.macros (macro_place (block_names blocks) (name_at cells cell))

abbrev pub pins_of : Tech → ℕ → Placed → Option BlockMacro → List PinPart
pins_of tech units placed None = []
pins_of tech units placed (Some cell) = parts_of tech units placed cell

abbrev pub obstructions_at : Tech → ℕ → Placed → Option BlockMacro → List Obstruction
obstructions_at tech units placed None = []
obstructions_at tech units placed (Some cell) = obstructions_of tech units placed cell

-- ## the block

-- The first domain that owns a place, or that there is none.
abbrev pub IsOwner : List (Option Rect) → ℤ × ℤ → Option ℕ → Type 0
IsOwner regions place domain = MatchOption domain
    ((k : ℕ) → k < length regions → owns_place regions (slice_index_or regions k None) place ≡ false)
    (IsFirstOwner regions place)

pub record IsPlacedBlock (tech : Tech) (cells : Cells) (blocks : Blocks) (script : Script) (units : ℕ)
    (regions : List (Option Rect)) (at : BlockAt) (block : PlacedBlock) : Type 0 where
  pub component : block.component ≡ at.component
  pub outline : block.outline ≡ box_in_place (placed_at cells units at)
  pub grown : block.grown ≡ grown_by (halo_at (halos_of units script.grids) at.grid) block.outline
  pub domain : IsOwner regions (at.x, at.y) block.domain
  pub grid : block.grid ≡ at.grid
  pub pins : block.pins ≡ pins_of tech units (placed_at cells units at) (macro_of cells blocks at.cell)
  pub obstructions : block.obstructions ≡ obstructions_at tech units (placed_at cells units at) (macro_of cells blocks at.cell)
  pub cuts : block.cuts ≡ cuts_of tech script at.grid block.pins block.obstructions

-- The blocks of a design, in the order of its components.
abbrev pub ArePlacedBlocks : Tech → Cells → Blocks → Design → Script → List (Option Rect) → List PlacedBlock → Type 0
ArePlacedBlocks tech cells blocks design script regions placed =
    InTurn (IsPlacedBlock tech cells blocks script design.units regions) (blocks_in cells design script) placed

-- What taps are found by, and what is found for one component.
use Rattle.std.specs.Prelude.{◌≡◌, ◌⊎◌, ℤ, pos, Bool, true, false, List, ◌++◌, None}
use Rattle.lef_cells.specs.declared.record.Cells.{Cells}
use Rattle.def_design.specs.declared.record.Component.{Component}
use Rattle.bias_file.specs.declared.record.Bias.{Bias}
use Rattle.grid_pieces.specs.declared.grid.Grid.{Grid}
use Rattle.grid_network.specs.declared.pad.Tap.{Tap}
use Rattle.grid_taps.specs.declared.tapping.TapTables.{TapTables}
use Rattle.grid_taps.specs.Naming.{IsUnknown, macro_names, amps_names}
use Rattle.grid_taps.specs.Taps.{regions_of, IsRange, IsUnowned, HasNoTaps, AreTapsFor}
use Rattle.grid_taps.specs.inside.Rails.{AreRailEntries}

-- What taps are found by.
pub record AreTablesOf (grid : Grid) (cells : Cells) (bias : Bias) (tables : TapTables) : Type 0 where
  pub rails : AreRailEntries grid.pieces tables.rails
  pub regions : tables.regions.items ≡ regions_of grid
  pub macros : tables.macros ≡ macro_names cells
  pub instance_lines : tables.instances ≡ amps_names bias.instances
  pub cell_lines : tables.cells ≡ amps_names bias.cells

-- No column and no domain: it is not placed, or its cell is no macro, or no domain owns it.
abbrev pub HasNoSeat : Grid → Cells → Component → Type 0
HasNoSeat grid cells component =
    (component.place ≡ None) ⊎ IsUnknown (macro_names cells) component.cell ⊎ IsUnowned grid component

-- The component draws a current and has no taps.
abbrev pub IsOff : Grid → Cells → Bias → Component → Type 0
IsOff grid cells bias component = (low : ℤ) × (high : ℤ) × IsRange bias component low high × (high ≡ pos 0 → ⊥)
    × HasNoTaps grid cells component

-- Its taps are added, or it is off.
abbrev pub AddsTaps : Grid → Cells → Bias → Component → List Tap → List Tap → Bool → Type 0
AddsTaps grid cells bias component old new true =
    (added : List Tap) × AreTapsFor grid cells bias component added × (new ≡ old ++ added)
AddsTaps grid cells bias component old new false = IsOff grid cells bias component

-- There is one list of load taps on rails.
use Rattle.std.proofs.Common.{◌≡◌, ℕ, List}
use Rattle.lef_cells.specs.declared.record.Cells.{Cells}
use Rattle.lef_cells.specs.Limits.{CellsKeep}
use Rattle.def_design.specs.declared.record.Design.{Design}
use Rattle.bias_file.specs.declared.record.Bias.{Bias}
use Rattle.bias_file.specs.Limits.{BiasKeeps}
use Rattle.grid_pieces.specs.declared.grid.Grid.{Grid}
use Rattle.grid_network.specs.declared.pad.Tap.{Tap}
use Rattle.grid_taps.specs.Taps.{AreTaps, IsLoadOff}
use Rattle.one_network.specs.Laws.Tapped.{taps_one}

module _ (grid : Grid) (cells : Cells) (design : Design) (bias : Bias) where
  -- which components are off, and what all taps are
  abbrev pub Off : ℕ → Type 0
  Off = IsLoadOff grid cells bias design.components

  abbrev pub Loads : List Tap → Type 0
  Loads = AreTaps grid cells bias design.components

  pub loads_one : CellsKeep cells → BiasKeeps bias → (a b : List Tap) → Loads a → Loads b → a ≡ b
  loads_one keep keeps = taps_one grid cells bias keep keeps design.components

-- What the steps to the taps of components keep.
use Rattle.std.specs.Prelude.{ℤ, pos, ◌≤ℤ◌, ◌^◌, List}
use Rattle.lef_cells.specs.declared.record.Cells.{Cells}
use Rattle.def_design.specs.declared.record.Component.{Component}
use Rattle.bias_file.specs.declared.record.Bias.{Bias}
use Rattle.grid_pieces.specs.declared.grid.Grid.{Grid}
use Rattle.grid_network.specs.declared.error.ExtractError.{ExtractError}
use Rattle.grid_network.specs.declared.error.ExtractError.TheVariants.{LoadOff, Want}
use Rattle.grid_network.specs.declared.pad.Tap.{Tap}
use Rattle.grid_taps.specs.Naming.{NoneIs, IsLeast}
use Rattle.grid_taps.specs.Taps.{AreTaps, IsLoadOff}

-- All components have the taps that they need.
pub record AreAllTapped (grid : Grid) (cells : Cells) (bias : Bias) (components : List Component) (taps : List Tap)
    : Type 0 where
  pub are : AreTaps grid cells bias components taps
  pub none_off : NoneIs (IsLoadOff grid cells bias components)

-- The first that has none, or want of memory.
abbrev pub IsTapRefused : Grid → Cells → Bias → List Component → ExtractError → Type 0
IsTapRefused grid cells bias components (LoadOff number) = IsLeast (IsLoadOff grid cells bias components) number
IsTapRefused grid cells bias components Want = Unit {0}
IsTapRefused grid cells bias components _ = ⊥

-- A range goes up from 0 and keeps its limit.
abbrev pub AmpsRange : ℤ → ℤ → Type 0
AmpsRange low high = (pos 0 ≤ℤ low) × (low ≤ℤ high) × (high ≤ℤ pos (10 ^ 18))

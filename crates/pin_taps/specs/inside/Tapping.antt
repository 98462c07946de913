-- What the steps to the taps of a design with blocks keep.
use Rattle.std.specs.Prelude.{◌≡◌, ℕ, ℤ, pos, Bool, true, false, List, ◌++◌}
use Rattle.lef_cells.specs.declared.record.Cells.{Cells}
use Rattle.def_design.specs.declared.record.Component.{Component}
use Rattle.bias_file.specs.declared.record.Bias.{Bias}
use Rattle.block_grids.specs.Blocks.{is_block, macro_names}
use Rattle.grid_network.specs.declared.error.ExtractError.{ExtractError}
use Rattle.grid_network.specs.declared.error.ExtractError.TheVariants.{LoadOff, Want}
use Rattle.grid_network.specs.declared.pad.Tap.{Tap}
use Rattle.grid_taps.specs.Naming.{NoneIs, IsLeast}
use Rattle.grid_taps.specs.Tables.{AreTablesOf}
use Rattle.grid_taps.specs.Taps.{IsRange}
use Rattle.macro_grid.specs.declared.record.MacroGrid.{MacroGrid}
use Rattle.pin_taps.specs.declared.tapping.BlockTables.{BlockTables}
use Rattle.pin_taps.specs.inside.Tables.{AreFeeding}
use Rattle.pin_taps.specs.Taps.{AreMacroTapsFor, AreMacroTaps, HasNoTapsBy, IsMacroLoadOff}

-- The component draws a current and has no taps.
abbrev pub IsOff : MacroGrid → Cells → Bias → ℕ → Component → Type 0
IsOff drawn cells bias number component = (low : ℤ) × (high : ℤ) × IsRange bias component low high × (high ≡ pos 0 → ⊥)
    × HasNoTapsBy (is_block cells component) drawn cells number component

-- Its taps are added, or it is off.
abbrev pub AddsTaps : MacroGrid → Cells → Bias → ℕ → Component → List Tap → List Tap → Bool → Type 0
AddsTaps drawn cells bias number component old new true =
    (added : List Tap) × AreMacroTapsFor drawn cells bias (number, component) added × (new ≡ old ++ added)
AddsTaps drawn cells bias number component old new false = IsOff drawn cells bias number component

-- All components have the taps that they need.
pub record AreAllTapped (drawn : MacroGrid) (cells : Cells) (bias : Bias) (components : List Component) (taps : List Tap)
    : Type 0 where
  pub are : AreMacroTaps drawn cells bias components taps
  pub none_off : NoneIs (IsMacroLoadOff drawn cells bias components)

-- The first that has none, or want of memory.
abbrev pub IsTapRefused : MacroGrid → Cells → Bias → List Component → ExtractError → Type 0
IsTapRefused drawn cells bias components (LoadOff number) = IsLeast (IsMacroLoadOff drawn cells bias components) number
IsTapRefused drawn cells bias components Want = Unit {0}
IsTapRefused drawn cells bias components _ = ⊥

-- What the taps of a component are found by.
pub record AreBlockTables (drawn : MacroGrid) (cells : Cells) (bias : Bias) (tables : BlockTables) : Type 0 where
  pub rails : AreTablesOf drawn.grid cells bias tables.rails
  pub macros : tables.macros ≡ macro_names cells
  pub feeding : AreFeeding drawn tables.feeding

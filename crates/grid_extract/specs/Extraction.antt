-- The network of a drawn grid, a design and a bias file, and what refuses it (this project).
use Rattle.std.specs.Prelude.{◌≡◌, ◌⊎◌, ℕ, ◌<◌, ◌^◌, List, All, length}
use Rattle.name_table.specs.Numbering.{AreDistinct}
use Rattle.via_arrays.specs.Lengths.{IsUnits}
use Rattle.lef_tech.specs.declared.tech.Tech.{Tech}
use Rattle.lef_cells.specs.declared.record.Cells.{Cells}
use Rattle.def_design.specs.declared.record.Design.{Design}
use Rattle.bias_file.specs.declared.record.Bias.{Bias}
use Rattle.grid_pieces.specs.declared.grid.Grid.{Grid}
use Rattle.grid_network.specs.declared.error.ExtractError.{ExtractError}
use Rattle.grid_network.specs.declared.error.ExtractError.TheVariants.{UnknownName, NoSupply, PadOff, LoadOff, Net, Want}
use Rattle.grid_network.specs.declared.extracted.Extracted.{Extracted}
use Rattle.grid_network.specs.declared.pad.PadOn.{PadOn}
use Rattle.grid_network.specs.declared.pad.Tap.{Tap}
use Rattle.grid_network.specs.Asked.{IsPieceOf, IsStackOf}
use Rattle.grid_network.specs.Drawing.{Drawing}
use Rattle.grid_network.specs.Network.{IsNetworkOf, IsRefused}
use Rattle.grid_taps.specs.Naming.{NamesNoNet, NamesNoCell, NoneIs, IsLeast}
use Rattle.grid_taps.specs.Pads.{ArePads}
use Rattle.grid_taps.specs.Refusals.{LacksSupply, IsPadOff}
use Rattle.grid_taps.specs.Taps.{AreTaps, IsLoadOff}

-- What is asked of the grid, which a drawing has: its units are in their range, its nets have different names, and its
-- pieces and stacks are of its nets and of the technology's layers. Pieces and stacks have numbers of 32 bits.
pub record GridKeeps (grid : Grid) (tech : Tech) : Type 0 where
  pub units : IsUnits grid.units
  pub nets : AreDistinct grid.nets
  pub pieces : All (IsPieceOf grid tech) grid.pieces
  pub stacks : All (IsStackOf grid tech) grid.stacks
  pub few_pieces : length grid.pieces < 2 ^ 32
  pub few_stacks : length grid.stacks < 2 ^ 32

-- A line of the bias file with this number names no net of the grid, no routing layer, no macro or no component.
abbrev pub NamesNothing : Grid → Tech → Cells → Design → Bias → ℕ → Type 0
NamesNothing grid tech cells design bias line = NamesNoNet grid tech bias line ⊎ NamesNoCell cells design bias line

-- The pads of the bias file and the load taps of the components, where nothing refuses them, and where it is said which components
-- draw a current and have no tap, and which taps all have.
pub record AllStandWith (IsOff : ℕ → Type 0) (AreLoads : List Tap → Type 0) (grid : Grid) (tech : Tech) (cells : Cells)
    (design : Design) (bias : Bias) (pads : List PadOn) (taps : List Tap) : Type 0 where
  pub known : NoneIs (NamesNothing grid tech cells design bias)
  pub supplied : NoneIs (LacksSupply grid bias)
  pub on_metal : NoneIs (IsPadOff grid tech bias)
  pub loads_on : NoneIs IsOff
  pub pads_are : ArePads grid tech bias pads
  pub taps_are : AreLoads taps

-- The grid with its pads and its load taps.
abbrev pub drawing_of : Grid → List PadOn → List Tap → Drawing
drawing_of grid pads taps = record { grid = grid; pads = pads; taps = taps }

-- The network: nothing refuses the pads and the taps, and it is the network of the grid with them.
pub record IsExtractedWith (IsOff : ℕ → Type 0) (AreLoads : List Tap → Type 0) (grid : Grid) (tech : Tech) (cells : Cells)
    (design : Design) (bias : Bias) (e : Extracted) : Type 0 where
  pub pads : List PadOn
  pub taps : List Tap
  pub stand : AllStandWith IsOff AreLoads grid tech cells design bias pads taps
  pub network : IsNetworkOf (drawing_of grid pads taps) tech e

-- The network of the grid with its pads and taps is refused.
pub record IsNetRefusedWith (IsOff : ℕ → Type 0) (AreLoads : List Tap → Type 0) (grid : Grid) (tech : Tech) (cells : Cells)
    (design : Design) (bias : Bias) (error : ExtractError) : Type 0 where
  pub pads : List PadOn
  pub taps : List Tap
  pub stand : AllStandWith IsOff AreLoads grid tech cells design bias pads taps
  pub refused : IsRefused (drawing_of grid pads taps) tech error

-- The refusals, in their order; of one kind the earliest line, net or component is named. Want of memory is free.
abbrev pub IsExtractRefusedWith : (ℕ → Type 0) → (List Tap → Type 0) → Grid → Tech → Cells → Design → Bias → ExtractError → Type 0
IsExtractRefusedWith IsOff AreLoads grid tech cells design bias (UnknownName line) =
    IsLeast (NamesNothing grid tech cells design bias) line
IsExtractRefusedWith IsOff AreLoads grid tech cells design bias (NoSupply net) =
    NoneIs (NamesNothing grid tech cells design bias) × IsLeast (LacksSupply grid bias) net
IsExtractRefusedWith IsOff AreLoads grid tech cells design bias (PadOff line) =
    NoneIs (NamesNothing grid tech cells design bias) × NoneIs (LacksSupply grid bias) × IsLeast (IsPadOff grid tech bias) line
IsExtractRefusedWith IsOff AreLoads grid tech cells design bias (LoadOff component) =
    NoneIs (NamesNothing grid tech cells design bias) × NoneIs (LacksSupply grid bias) × NoneIs (IsPadOff grid tech bias)
    × IsLeast IsOff component
IsExtractRefusedWith IsOff AreLoads grid tech cells design bias (Net error) =
    IsNetRefusedWith IsOff AreLoads grid tech cells design bias (Net error)
IsExtractRefusedWith IsOff AreLoads grid tech cells design bias Want = Unit {0}

-- ## load taps on rails

-- The pads of the bias file and the load taps of the components on rails, where nothing refuses them.
abbrev pub AllStand : Grid → Tech → Cells → Design → Bias → List PadOn → List Tap → Type 0
AllStand grid tech cells design bias pads taps = AllStandWith (IsLoadOff grid cells bias design.components)
    (AreTaps grid cells bias design.components) grid tech cells design bias pads taps

-- The answer: the network with the load taps of all components on rails.
abbrev pub IsExtracted : Grid → Tech → Cells → Design → Bias → Extracted → Type 0
IsExtracted grid tech cells design bias e = IsExtractedWith (IsLoadOff grid cells bias design.components)
    (AreTaps grid cells bias design.components) grid tech cells design bias e

-- Its refusals.
abbrev pub IsExtractRefused : Grid → Tech → Cells → Design → Bias → ExtractError → Type 0
IsExtractRefused grid tech cells design bias error = IsExtractRefusedWith (IsLoadOff grid cells bias design.components)
    (AreTaps grid cells bias design.components) grid tech cells design bias error

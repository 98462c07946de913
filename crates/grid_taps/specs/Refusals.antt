-- When pads and taps are refused, and that nothing else is answered then.
use Rattle.std.specs.Prelude.{◌≡◌, ℕ, ℤ, List, Contains}
use Rattle.lef_tech.specs.declared.tech.Tech.{Tech}
use Rattle.lef_cells.specs.declared.record.Cells.{Cells}
use Rattle.def_design.specs.declared.record.Design.{Design}
use Rattle.bias_file.specs.declared.record.Bias.{Bias}
use Rattle.bias_file.specs.declared.record.PadAt.{PadAt}
use Rattle.bias_file.specs.declared.record.Supply.{Supply}
use Rattle.grid_pieces.specs.declared.grid.Grid.{Grid}
use Rattle.grid_pieces.specs.declared.piece.Piece.{Piece}
use Rattle.grid_pieces.specs.Piece.{Among}
use Rattle.grid_network.specs.declared.error.ExtractError.{ExtractError}
use Rattle.grid_network.specs.declared.error.ExtractError.TheVariants.{UnknownName, NoSupply, PadOff, LoadOff, Want}
use Rattle.grid_network.specs.declared.pad.PadOn.{PadOn}
use Rattle.grid_network.specs.declared.pad.Tap.{Tap}
use Rattle.grid_taps.specs.Naming.{At, NamesNoNet, NamesNoCell, NoneIs, IsLeast}
use Rattle.grid_taps.specs.Pads.{StandsOn, ArePads}
use Rattle.grid_taps.specs.Taps.{AreTaps, IsLoadOff}

-- No supply line is of the net with this number.
abbrev pub HasNoSupply : Grid → Bias → ℕ → Type 0
HasNoSupply grid bias net = (s : Supply) → Contains bias.supplies s → At grid.nets net s.net → ⊥

-- A piece is of the net with this number, which has no supply line.
abbrev pub LacksSupply : Grid → Bias → ℕ → Type 0
LacksSupply grid bias net = Among (λ (piece : Piece). (piece.net ≡ net) × HasNoSupply grid bias piece.net) grid.pieces

-- The pad of the line with this number stands on no piece: its place is no whole number of units, or lies on none of
-- its net and layer.
abbrev pub IsPadOff : Grid → Tech → Bias → ℕ → Type 0
IsPadOff grid tech bias line = Among (λ (pad : PadAt). (pad.line ≡ line)
    × ((number : ℕ) (along : ℤ) → StandsOn grid tech pad number along → ⊥)) bias.pads

-- The answer of `pads`: nothing refuses them.
pub record PadsStand (grid : Grid) (tech : Tech) (bias : Bias) (pads : List PadOn) : Type 0 where
  pub known : NoneIs (NamesNoNet grid tech bias)
  pub supplied : NoneIs (LacksSupply grid bias)
  pub on_metal : NoneIs (IsPadOff grid tech bias)
  pub are : ArePads grid tech bias pads

-- Its refusals, in their order; of one kind the earliest line or net is named.
abbrev pub ArePadsRefused : Grid → Tech → Bias → ExtractError → Type 0
ArePadsRefused grid tech bias (UnknownName line) = IsLeast (NamesNoNet grid tech bias) line
ArePadsRefused grid tech bias (NoSupply net) = NoneIs (NamesNoNet grid tech bias) × IsLeast (LacksSupply grid bias) net
ArePadsRefused grid tech bias (PadOff line) = NoneIs (NamesNoNet grid tech bias) × NoneIs (LacksSupply grid bias)
    × IsLeast (IsPadOff grid tech bias) line
ArePadsRefused grid tech bias Want = Unit {0}
ArePadsRefused grid tech bias _ = ⊥

-- Load taps, where it is said which components draw a current and have none, and which taps all have: nothing refuses them.
pub record TapsStandWith (IsOff : ℕ → Type 0) (AreLoads : List Tap → Type 0) (cells : Cells) (design : Design) (bias : Bias)
    (taps : List Tap) : Type 0 where
  pub known : NoneIs (NamesNoCell cells design bias)
  pub on_metal : NoneIs IsOff
  pub are : AreLoads taps

-- Their refusals, in their order; of one kind the earliest line or component is named.
abbrev pub AreTapsRefusedWith : (ℕ → Type 0) → Cells → Design → Bias → ExtractError → Type 0
AreTapsRefusedWith IsOff cells design bias (UnknownName line) = IsLeast (NamesNoCell cells design bias) line
AreTapsRefusedWith IsOff cells design bias (LoadOff component) = NoneIs (NamesNoCell cells design bias) × IsLeast IsOff component
AreTapsRefusedWith IsOff cells design bias Want = Unit {0}
AreTapsRefusedWith IsOff cells design bias _ = ⊥

-- The answer of `taps`, whose load taps stand on rails.
abbrev pub TapsStand : Grid → Cells → Design → Bias → List Tap → Type 0
TapsStand grid cells design bias taps = TapsStandWith (IsLoadOff grid cells bias design.components)
    (AreTaps grid cells bias design.components) cells design bias taps

-- Its refusals.
abbrev pub AreTapsRefused : Grid → Cells → Design → Bias → ExtractError → Type 0
AreTapsRefused grid cells design bias error =
    AreTapsRefusedWith (IsLoadOff grid cells bias design.components) cells design bias error

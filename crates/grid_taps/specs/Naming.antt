-- Names of nets, layers, macros and components, and the lines of a bias file that name them (this project).
use Rattle.std.specs.Prelude.{◌≡◌, ℕ, ◌≤◌, ◌<◌, ◌⊎◌, List, map, length, slice_index_or, Contains, Option, MatchOption}
use Rattle.lef_tech.specs.declared.layer.RoutingLayer.{RoutingLayer}
use Rattle.lef_tech.specs.declared.tech.Tech.{Tech}
use Rattle.lef_cells.specs.declared.record.Cells.{Cells}
use Rattle.lef_cells.specs.declared.record.MacroCell.{MacroCell}
use Rattle.def_design.specs.declared.record.Design.{Design}
use Rattle.def_design.specs.declared.record.Component.{Component}
use Rattle.bias_file.specs.declared.record.Bias.{Bias}
use Rattle.bias_file.specs.declared.record.Supply.{Supply}
use Rattle.bias_file.specs.declared.record.DropLimit.{DropLimit}
use Rattle.bias_file.specs.declared.record.PadAt.{PadAt}
use Rattle.bias_file.specs.declared.record.Amps.{Amps}
use Rattle.grid_pieces.specs.declared.grid.Grid.{Grid}
use Rattle.grid_pieces.specs.Piece.{Among}

-- x stands at place k of the list.
abbrev pub At : {X : Type 0} → List X → ℕ → X → Type 0
At xs k x = (k < length xs) × (slice_index_or xs k x ≡ x)

-- None of the names is this one.
abbrev pub IsUnknown : List (List ℕ) → List ℕ → Type 0
IsUnknown names name = Contains names name → ⊥

abbrev pub layer_names : Tech → List (List ℕ)
layer_names tech = map (λ (layer : RoutingLayer). layer.name) tech.routing

abbrev pub macro_names : Cells → List (List ℕ)
macro_names cells = map (λ (cell : MacroCell). cell.name) cells.macros

abbrev pub component_names : Design → List (List ℕ)
component_names design = map (λ (component : Component). component.name) design.components

abbrev pub amps_names : List Amps → List (List ℕ)
amps_names lines = map (λ (a : Amps). a.name) lines

-- One of the lines has this number, and what it names is none of the names.
abbrev pub NamesNone : {L : Type 0} → (L → ℕ) → (L → List ℕ) → List (List ℕ) → List L → ℕ → Type 0
NamesNone {L} number_of name_of names lines number =
    Among (λ (line : L). (number_of line ≡ number) × IsUnknown names (name_of line)) lines

-- A supply, droplimit or pad line with this number names no net of the grid, or a pad line no routing layer.
abbrev pub NamesNoNet : Grid → Tech → Bias → ℕ → Type 0
NamesNoNet grid tech bias number =
    NamesNone (λ (s : Supply). s.line) (λ (s : Supply). s.net) grid.nets bias.supplies number
    ⊎ NamesNone (λ (d : DropLimit). d.line) (λ (d : DropLimit). d.net) grid.nets bias.drops number
    ⊎ NamesNone (λ (p : PadAt). p.line) (λ (p : PadAt). p.net) grid.nets bias.pads number
    ⊎ NamesNone (λ (p : PadAt). p.line) (λ (p : PadAt). p.layer) (layer_names tech) bias.pads number

-- A cell line with this number names no macro, or an instance line no component.
abbrev pub NamesNoCell : Cells → Design → Bias → ℕ → Type 0
NamesNoCell cells design bias number =
    NamesNone (λ (a : Amps). a.line) (λ (a : Amps). a.name) (macro_names cells) bias.cells number
    ⊎ NamesNone (λ (a : Amps). a.line) (λ (a : Amps). a.name) (component_names design) bias.instances number

-- No number has the property.
abbrev pub NoneIs : (ℕ → Type 0) → Type 0
NoneIs P = (n : ℕ) → P n → ⊥

-- The least number with the property.
pub record IsLeast (P : ℕ → Type 0) (n : ℕ) : Type 0 where
  pub is : P n
  pub least : (m : ℕ) → P m → n ≤ m

-- It, or that there is none.
abbrev pub IsFirst : (ℕ → Type 0) → Option ℕ → Type 0
IsFirst P answer = MatchOption answer (NoneIs P) (IsLeast P)

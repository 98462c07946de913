-- Where the load taps of the components stand, and what they draw (this project).
use Rattle.std.specs.Prelude.{◌≡◌, ◌⊎◌, ℕ, ◌/◌, ℤ, pos, neg_ℤ, ◌+ℤ◌, Bool, true, false, if◌then◌else◌, List, [], ◌∷◌, map, length, slice_index_or, Contains, Option, Some, None, ◌<◌}
use Rattle.geom_rect.specs.declared.direction.Orient.{Orient}
use Rattle.geom_rect.specs.declared.direction.Orient.TheVariants as orients
use Rattle.geom_rect.specs.declared.rect.Rect.{Rect}
use Rattle.via_arrays.specs.Lengths.{in_units}
use Rattle.lef_cells.specs.declared.record.Cells.{Cells}
use Rattle.lef_cells.specs.declared.record.MacroCell.{MacroCell}
use Rattle.def_design.specs.declared.record.Component.{Component}
use Rattle.bias_file.specs.declared.record.Bias.{Bias}
use Rattle.bias_file.specs.declared.record.Amps.{Amps}
use Rattle.grid_pieces.specs.declared.grid.Grid.{Grid}
use Rattle.grid_pieces.specs.declared.grid.DomainAt.{DomainAt}
use Rattle.grid_pieces.specs.declared.piece.Piece.{Piece}
use Rattle.grid_pieces.specs.Piece.{Among}
use Rattle.grid_cores.specs.Owner.{owns_place, IsFirstOwner}
use Rattle.grid_network.specs.declared.pad.Tap.{Tap}
use Rattle.grid_taps.specs.declared.column.Column.{Column}
use Rattle.grid_taps.specs.Naming.{At, IsUnknown, macro_names}
use Rattle.grid_taps.specs.Rails.{IsRail, Crosses, IsLowestRail}
use Rattle.grid_taps.specs.Pads.{InOrder}

-- ## the range of a component's current

-- One of the lines has this name and this range.
abbrev pub IsLine : List Amps → List ℕ → ℤ → ℤ → Type 0
IsLine lines name low high = Among (λ (a : Amps). (a.name ≡ name) × (a.low ≡ low) × (a.high ≡ high)) lines

abbrev pub HasNoLine : List Amps → List ℕ → Type 0
HasNoLine lines name = (a : Amps) → Contains lines a → a.name ≡ name → ⊥

-- It is the range of its instance line, else that of its cell's line, else from 0 to 0.
abbrev pub IsRange : Bias → Component → ℤ → ℤ → Type 0
IsRange bias component low high =
    IsLine bias.instances component.name low high
    ⊎ (HasNoLine bias.instances component.name × IsLine bias.cells component.cell low high)
    ⊎ (HasNoLine bias.instances component.name × HasNoLine bias.cells component.cell
    × (low ≡ pos 0) × (high ≡ pos 0))

-- ## its place

-- W, E, FW and FE exchange width and height.
abbrev pub is_turned : Orient → Bool
is_turned orients.W = true
is_turned orients.E = true
is_turned orients.FW = true
is_turned orients.FE = true
is_turned _ = false

-- Its width and its height in units, of which each is rounded down.
abbrev pub width_of : ℕ → MacroCell → Orient → ℕ
width_of units cell orient = in_units units (if is_turned orient then cell.height else cell.width)

abbrev pub height_of : ℕ → MacroCell → Orient → ℕ
height_of units cell orient = in_units units (if is_turned orient then cell.width else cell.height)

-- Its taps stand at half of its width, rounded down, between its lower and its upper edge.
abbrev pub column_of : ℕ → MacroCell → ℤ × ℤ × Orient → Column
column_of units cell (x, y, orient) = record {
  x = x +ℤ pos (width_of units cell orient / 2);
  lower = y;
  upper = y +ℤ pos (height_of units cell orient);
}

-- The macro of the component.
abbrev pub IsMacroOf : Cells → Component → MacroCell → Type 0
IsMacroOf cells component cell = Contains cells.macros cell × (cell.name ≡ component.cell)

-- ## its domain

abbrev pub regions_of : Grid → List (Option Rect)
regions_of grid = map (λ (d : DomainAt). d.region) grid.domains

-- The domain owns what is placed there.
abbrev pub IsOwner : Grid → ℤ × ℤ → DomainAt → Type 0
IsOwner grid place domain = (k : ℕ) × IsFirstOwner (regions_of grid) place k × At grid.domains k domain

-- No domain does.
abbrev pub HasNoOwner : Grid → ℤ × ℤ → Type 0
HasNoOwner grid place = (k : ℕ) → k < length (regions_of grid)
    → owns_place (regions_of grid) (slice_index_or (regions_of grid) k None) place ≡ false

-- ## its taps

-- Where it stands, of which macro it is, and which domain owns it.
pub record IsPlaced (grid : Grid) (cells : Cells) (component : Component) (column : Column) (domain : DomainAt)
    : Type 0 where
  pub x : ℤ
  pub y : ℤ
  pub orient : Orient
  pub cell : MacroCell
  pub place : component.place ≡ Some (x, y, orient)
  pub is : IsMacroOf cells component cell
  pub owner : IsOwner grid (x, y) domain
  pub column_is : column ≡ column_of grid.units cell (x, y, orient)

-- A tap on the lowest power rail that draws the range, and one on the lowest ground rail that gives it back.
abbrev pub tap_pair : Column → ℕ → ℕ → ℤ → ℤ → List Tap
tap_pair column power ground low high =
    record { piece = power; along = column.x; low = low; high = high }
    ∷ record { piece = ground; along = column.x; low = neg_ℤ high; high = neg_ℤ low } ∷ []

-- The taps of a component that draws a current of this range, one for each of the two nets of its domain.
pub record AreTapsOf (grid : Grid) (cells : Cells) (component : Component) (low high : ℤ) (taps : List Tap)
    : Type 0 where
  pub column : Column
  pub domain : DomainAt
  pub placed : IsPlaced grid cells component column domain
  pub power : ℕ
  pub ground : ℕ
  pub power_rail : IsLowestRail grid domain.power column power
  pub ground_rail : IsLowestRail grid domain.ground column ground
  pub are : taps ≡ tap_pair column power ground low high

-- The taps of a component: none where the high end of its range is 0.
abbrev pub AreTapsFor : Grid → Cells → Bias → Component → List Tap → Type 0
AreTapsFor grid cells bias component taps = (low : ℤ) × (high : ℤ) × IsRange bias component low high
    × (((high ≡ pos 0) × (taps ≡ [])) ⊎ ((high ≡ pos 0 → ⊥) × AreTapsOf grid cells component low high taps))

-- The taps of all components, in their order.
abbrev pub AreTaps : Grid → Cells → Bias → List Component → List Tap → Type 0
AreTaps grid cells bias components taps = InOrder (AreTapsFor grid cells bias) components taps

-- ## why there are none

-- No domain owns its place.
pub record IsUnowned (grid : Grid) (component : Component) : Type 0 where
  pub x : ℤ
  pub y : ℤ
  pub orient : Orient
  pub place : component.place ≡ Some (x, y, orient)
  pub none : HasNoOwner grid (x, y)

-- A net of its domain has no rail for it.
pub record LacksRail (grid : Grid) (cells : Cells) (component : Component) : Type 0 where
  pub column : Column
  pub domain : DomainAt
  pub placed : IsPlaced grid cells component column domain
  pub net : ℕ
  pub of_domain : (net ≡ domain.power) ⊎ (net ≡ domain.ground)
  pub none : (number : ℕ) (rail : Piece) → IsRail grid net number rail → Crosses column rail → ⊥

-- It is not placed, or its cell is no macro, or no domain owns it, or a net of the domain that owns it has no rail for
-- it.
abbrev pub HasNoTaps : Grid → Cells → Component → Type 0
HasNoTaps grid cells component =
    (component.place ≡ None) ⊎ IsUnknown (macro_names cells) component.cell ⊎ IsUnowned grid component
    ⊎ LacksRail grid cells component

-- The component with this number draws a current, and has no taps.
pub record IsLoadOff (grid : Grid) (cells : Cells) (bias : Bias) (components : List Component) (number : ℕ)
    : Type 0 where
  pub component : Component
  pub is : At components number component
  pub low : ℤ
  pub high : ℤ
  pub range : IsRange bias component low high
  pub some : high ≡ pos 0 → ⊥
  pub none : HasNoTaps grid cells component

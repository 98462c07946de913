-- Where the load taps of the components of a design with blocks stand, and what they draw: those of a block on the pieces that feed
-- it, and those of every other component on rails.
use Rattle.std.specs.Prelude.{◌≡◌, ◌≢◌, ◌⊎◌, ℕ, ℤ, pos, neg_ℤ, ◌+ℤ◌, Bool, true, false, List, [], ◌++◌, map, length, Some}
use Rattle.std.specs.List.{enumerate_from}
use Rattle.geom_rect.specs.declared.direction.Orient.{Orient}
use Rattle.lef_cells.specs.declared.record.Cells.{Cells}
use Rattle.def_design.specs.declared.record.Component.{Component}
use Rattle.bias_file.specs.declared.record.Bias.{Bias}
use Rattle.block_grids.specs.Blocks.{is_block, numbered}
use Rattle.grid_network.specs.Drawing.{piece_at}
use Rattle.grid_network.specs.declared.pad.Tap.{Tap}
use Rattle.grid_pieces.specs.declared.grid.DomainAt.{DomainAt}
use Rattle.grid_pieces.specs.declared.grid.Grid.{Grid}
use Rattle.grid_pieces.specs.declared.piece.Piece.{Piece}
use Rattle.grid_taps.specs.Naming.{At}
use Rattle.grid_taps.specs.Pads.{InOrder}
use Rattle.grid_taps.specs.Taps.{IsRange, IsOwner, IsUnowned, HasNoTaps, AreTapsOf}
use Rattle.load_shares.specs.Shares.{share_at}
use Rattle.load_shares.specs.declared.share.Share.{Share}
use Rattle.macro_grid.specs.declared.record.MacroGrid.{MacroGrid}
use Rattle.rounding.specs.Rounding.{floor_div}
use Rattle.pin_taps.specs.Fed.{feeding}

-- ## the taps of a block

-- The middle of a piece, rounded down.
abbrev pub middle : Piece → ℤ
middle piece = floor_div (piece.from +ℤ piece.to) (pos 2)

-- A tap of a share at the middle of the piece with this number.
abbrev pub tap_on : List Piece → ℕ → Share → Tap
tap_on pieces number share = record { piece = number; along = middle (piece_at pieces number); low = share.low; high = share.high }

-- A load shared by the pieces with these numbers, in their order: each has one share.
abbrev pub shared_by : List Piece → List ℕ → Share → List Tap
shared_by pieces numbers load =
    map (λ (at : ℕ × ℕ). tap_on pieces at.1 (share_at load (length numbers) at.0)) (enumerate_from 0 numbers)

-- What a load gives back.
abbrev pub given_back : Share → Share
given_back load = record { low = neg_ℤ load.high; high = neg_ℤ load.low }

-- The taps of the block that the component with this number is: the pieces that feed it of the power net of its domain draw its load,
-- and those of the net of ground give it back.
abbrev pub block_taps : MacroGrid → ℕ → DomainAt → Share → List Tap
block_taps drawn number domain load =
    shared_by drawn.grid.pieces (feeding drawn number domain.power) load
    ++ shared_by drawn.grid.pieces (feeding drawn number domain.ground) (given_back load)

-- The domain owns the place of the component.
pub record IsOwned (grid : Grid) (component : Component) (domain : DomainAt) : Type 0 where
  pub x : ℤ
  pub y : ℤ
  pub orient : Orient
  pub place : component.place ≡ Some (x, y, orient)
  pub owner : IsOwner grid (x, y) domain

-- The taps of a block that draws a current of this range: some piece feeds each net of its domain.
pub record AreBlockTaps (drawn : MacroGrid) (number : ℕ) (component : Component) (low high : ℤ) (taps : List Tap)
    : Type 0 where
  pub domain : DomainAt
  pub owned : IsOwned drawn.grid component domain
  pub power_fed : feeding drawn number domain.power ≢ []
  pub ground_fed : feeding drawn number domain.ground ≢ []
  pub are : taps ≡ block_taps drawn number domain (record { low = low; high = high })

-- ## the taps of all components

-- The taps of a component that draws a current of this range, which is a block or not.
abbrev pub AreTapsBy : Bool → MacroGrid → Cells → ℕ → Component → ℤ → ℤ → List Tap → Type 0
AreTapsBy true drawn cells number component low high taps = AreBlockTaps drawn number component low high taps
AreTapsBy false drawn cells number component low high taps = AreTapsOf drawn.grid cells component low high taps

-- The taps of the component with this number: none where the high end of its range is 0.
abbrev pub AreMacroTapsFor : MacroGrid → Cells → Bias → ℕ × Component → List Tap → Type 0
AreMacroTapsFor drawn cells bias (number, component) taps = (low : ℤ) × (high : ℤ) × IsRange bias component low high
    × (((high ≡ pos 0) × (taps ≡ []))
    ⊎ ((high ≡ pos 0 → ⊥) × AreTapsBy (is_block cells component) drawn cells number component low high taps))

-- The taps of all components, in their order.
abbrev pub AreMacroTaps : MacroGrid → Cells → Bias → List Component → List Tap → Type 0
AreMacroTaps drawn cells bias components taps = InOrder (AreMacroTapsFor drawn cells bias) (numbered components) taps

-- ## why there are none

-- No piece feeds a net of the domain that owns the block.
pub record LacksPin (drawn : MacroGrid) (number : ℕ) (component : Component) : Type 0 where
  pub domain : DomainAt
  pub owned : IsOwned drawn.grid component domain
  pub net : ℕ
  pub of_domain : (net ≡ domain.power) ⊎ (net ≡ domain.ground)
  pub none : feeding drawn number net ≡ []

-- A block has no taps where no domain owns it, or a net of the domain that owns it has no pin that feeds it. Any other component
-- has none where it has none on rails.
abbrev pub HasNoTapsBy : Bool → MacroGrid → Cells → ℕ → Component → Type 0
HasNoTapsBy true drawn cells number component = IsUnowned drawn.grid component ⊎ LacksPin drawn number component
HasNoTapsBy false drawn cells number component = HasNoTaps drawn.grid cells component

-- The component with this number draws a current, and has no taps.
pub record IsMacroLoadOff (drawn : MacroGrid) (cells : Cells) (bias : Bias) (components : List Component) (number : ℕ)
    : Type 0 where
  pub component : Component
  pub is : At components number component
  pub low : ℤ
  pub high : ℤ
  pub range : IsRange bias component low high
  pub some : high ≡ pos 0 → ⊥
  pub none : HasNoTapsBy (is_block cells component) drawn cells number component

-- What the pads of a grid are found by, and what their steps keep.
use Rattle.std.specs.Prelude.{◌≡◌, ℕ, ◌<◌, ℤ, List, All, AllPairs, Contains}
use Rattle.name_table.specs.Numbering.{AreDistinct}
use Rattle.geom_rect.specs.Rect.{HasPoint}
use Rattle.bias_file.specs.declared.record.Bias.{Bias}
use Rattle.bias_file.specs.declared.record.PadAt.{PadAt}
use Rattle.lef_tech.specs.declared.tech.Tech.{Tech}
use Rattle.grid_pieces.specs.declared.grid.Grid.{Grid}
use Rattle.grid_pieces.specs.declared.piece.Piece.{Piece}
use Rattle.grid_pieces.specs.Line.{piece_rect}
use Rattle.grid_taps.specs.declared.column.Column.{Column}
use Rattle.grid_taps.specs.declared.on_piece.Nets.{Nets}
use Rattle.grid_taps.specs.declared.on_piece.Spot.{Spot}
use Rattle.grid_network.specs.declared.pad.PadOn.{PadOn}
use Rattle.grid_taps.specs.Naming.{At}
use Rattle.grid_taps.specs.Pads.{IsInUnits, place_along, StandsOn}
use Rattle.grid_taps.specs.inside.Steps.{AreVolts, ArePieceEntries}

-- The place of the pad in units.
pub record IsSpot (units : ℕ) (pad : PadAt) (spot : Spot) : Type 0 where
  pub x : IsInUnits units pad.x spot.x
  pub y : IsInUnits units pad.y spot.y

abbrev pub point : Spot → Column
point spot = record { x = spot.x; lower = spot.y; upper = spot.y }

-- The piece with this number is of the net and has the place.
pub record HasSpot (pieces : List Piece) (net : ℕ) (spot : Spot) (number : ℕ) : Type 0 where
  pub piece : Piece
  pub is : At pieces number piece
  pub of_net : piece.net ≡ net
  pub has : HasPoint (piece_rect piece) spot.x spot.y

-- The numbers of all such pieces, each once and rising.
pub record ArePiecesAt (pieces : List Piece) (net : ℕ) (spot : Spot) (numbers : List ℕ) : Type 0 where
  pub each : All (HasSpot pieces net spot) numbers
  pub every : (number : ℕ) → HasSpot pieces net spot number → Contains numbers number
  pub rising : AllPairs (λ a b. a < b) numbers

-- The numbers are those of the pieces of the pad's net.
pub record AreFound (grid : Grid) (pad : PadAt) (spot : Spot) (numbers : List ℕ) : Type 0 where
  pub net : ℕ
  pub named : At grid.nets net pad.net
  pub distinct : AreDistinct grid.nets
  pub are : ArePiecesAt grid.pieces net spot numbers

abbrev pub pad_on : ℕ → Piece → Spot → ℤ → PadOn
pad_on number piece spot volts =
    record { piece = number; along = place_along piece.axis spot.x spot.y; volts = volts }

-- The pad stands there, with this potential.
abbrev pub StandsWith : Grid → Tech → PadAt → ℤ → PadOn → Type 0
StandsWith grid tech pad volts on = StandsOn grid tech pad on.piece on.along × (on.volts ≡ volts)

-- On each piece on which it stands, in their order and once on each.
pub record AreOnWith (grid : Grid) (tech : Tech) (pad : PadAt) (volts : ℤ) (on : List PadOn) : Type 0 where
  pub each : All (StandsWith grid tech pad volts) on
  pub every : (one : PadOn) → StandsWith grid tech pad volts one → Contains on one
  pub rising : AllPairs (λ (a b : PadOn). a.piece < b.piece) on

-- What the pads of a grid are found by.
pub record AreNetsOf (grid : Grid) (bias : Bias) (nets : Nets) : Type 0 where
  pub distinct : AreDistinct grid.nets
  pub names : nets.names ≡ grid.nets
  pub volts : AreVolts bias.supplies grid.nets nets.volts.items
  pub index : ArePieceEntries grid.pieces nets.index

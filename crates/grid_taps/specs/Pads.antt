-- Where the pads of a bias file stand (this project): a pad's place lies in the closed rectangle of a piece of its net
-- and layer, and is moved across to the centre line.
use Rattle.std.specs.Prelude.{◌≡◌, ℕ, ◌<◌, ℤ, pos, ◌*ℤ◌, List, [], ◌∷◌, ◌++◌, All, AllPairs, Contains}
use Rattle.geom_rect.specs.Rect.{HasPoint}
use Rattle.geom_rect.specs.declared.direction.Axis.{Axis}
use Rattle.geom_rect.specs.declared.direction.Axis.TheVariants.{X, Y}
use Rattle.lef_tech.specs.declared.tech.Tech.{Tech}
use Rattle.via_arrays.specs.declared.lengths.TheConstants.{PICOMETRES}
use Rattle.bias_file.specs.declared.record.Bias.{Bias}
use Rattle.bias_file.specs.declared.record.PadAt.{PadAt}
use Rattle.bias_file.specs.declared.record.Supply.{Supply}
use Rattle.grid_pieces.specs.declared.grid.Grid.{Grid}
use Rattle.grid_pieces.specs.declared.piece.Piece.{Piece}
use Rattle.grid_pieces.specs.Line.{piece_rect}
use Rattle.grid_pieces.specs.Piece.{Among}
use Rattle.grid_network.specs.declared.pad.PadOn.{PadOn}
use Rattle.grid_taps.specs.Naming.{At, layer_names}

-- A length in picometres is this whole number of units.
abbrev pub IsInUnits : ℕ → ℤ → ℤ → Type 0
IsInUnits units length whole = whole *ℤ pos PICOMETRES ≡ length *ℤ pos units

-- How far along an axis a place lies.
abbrev pub place_along : Axis → ℤ → ℤ → ℤ
place_along X x y = x
place_along Y x y = y

-- The pad stands on the piece with this number, so far along it: the piece is of the pad's net and layer, and has the
-- pad's place, edges included.
pub record StandsOn (grid : Grid) (tech : Tech) (pad : PadAt) (number : ℕ) (along : ℤ) : Type 0 where
  pub piece : Piece
  pub is : At grid.pieces number piece
  pub net : At grid.nets piece.net pad.net
  pub layer : At (layer_names tech) piece.layer pad.layer
  pub x : ℤ
  pub y : ℤ
  pub in_x : IsInUnits grid.units pad.x x
  pub in_y : IsInUnits grid.units pad.y y
  pub has : HasPoint (piece_rect piece) x y
  pub so_far : along ≡ place_along piece.axis x y

-- The net has a supply line with this potential.
abbrev pub IsSupply : Bias → List ℕ → ℤ → Type 0
IsSupply bias net volts = Among (λ (s : Supply). (s.net ≡ net) × (s.volts ≡ volts)) bias.supplies

-- The pad of a line, on a piece, with its net's supply.
pub record IsPadOn (grid : Grid) (tech : Tech) (bias : Bias) (pad : PadAt) (on : PadOn) : Type 0 where
  pub stands : StandsOn grid tech pad on.piece on.along
  pub volts : IsSupply bias pad.net on.volts

-- The pad of a line on each piece on which it stands, in the order of the pieces and once on each. In a grid in which
-- nothing touches it stands on one.
pub record AreOnPieces (grid : Grid) (tech : Tech) (bias : Bias) (pad : PadAt) (on : List PadOn) : Type 0 where
  pub each : All (IsPadOn grid tech bias pad) on
  pub every : (one : PadOn) → IsPadOn grid tech bias pad one → Contains on one
  pub rising : AllPairs (λ (a b : PadOn). a.piece < b.piece) on

-- What each of the sources gives, source after source.
abbrev pub InOrder : {S E : Type 0} → (S → List E → Type 0) → List S → List E → Type 0
InOrder {S} {E} gives [] all = all ≡ []
InOrder {S} {E} gives (source ∷ sources) all = (first : List E) × (rest : List E) × gives source first
    × InOrder gives sources rest × (all ≡ first ++ rest)

-- The pads of all pad lines, in their order.
abbrev pub ArePads : Grid → Tech → Bias → List PadOn → Type 0
ArePads grid tech bias pads = InOrder (AreOnPieces grid tech bias) bias.pads pads

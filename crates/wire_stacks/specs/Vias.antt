-- Vias at their places, and the arrays of cuts that they are (LEF/DEF 5.8 Language Reference, VIAS: VIARULE, CUTSIZE,
-- CUTSPACING, ENCLOSURE, ROWCOL).
use Rattle.std.specs.Prelude.{◌≡◌, ◌↔◌, ℕ, pos, IsTrue, List, length, slice_index_or, Some, slice_get}
use Rattle.grid_pieces.specs.declared.piece.Piece.{Piece}
use Rattle.via_arrays.specs.declared.parts.CutArray.{CutArray}
use Rattle.wire_chains.specs.declared.via.ViaAt.{ViaAt}
use Rattle.wire_names.specs.declared.record.NamedVia.{NamedVia}
use Rattle.wire_names.specs.declared.record.Spot.{Spot}
use Rattle.wire_pieces.specs.Centre.{IsHeld}

-- The via at a place of the list; beyond its end one without cuts.
abbrev pub via_at : List NamedVia → ℕ → NamedVia
via_at vias place = slice_index_or vias place (record {
  rule = 0;
  lower = 0;
  cut = 0;
  upper = 0;
  columns = 0;
  rows = 0;
  cut_x = pos 0;
  cut_y = pos 0;
  pitch_x = pos 0;
  pitch_y = pos 0;
  lower_x = pos 0;
  lower_y = pos 0;
  upper_x = pos 0;
  upper_y = pos 0;
})

-- The array of cuts that a via is.
abbrev pub array_of : NamedVia → CutArray
array_of via = record {
  rule = via.rule;
  columns = via.columns;
  rows = via.rows;
  cut_x = via.cut_x;
  cut_y = via.cut_y;
  pitch_x = via.pitch_x;
  pitch_y = via.pitch_y;
  lower_x = via.lower_x;
  lower_y = via.lower_y;
  upper_x = via.upper_x;
  upper_y = via.upper_y;
}

-- The via that stands at a place: its lower layer, and whether a piece of its net there has the place on its centre line.
pub record IsViaAt (vias : List NamedVia) (pieces : List Piece) (number : ℕ) (spot : Spot) (at : ViaAt) : Type 0 where
  pub net : at.net ≡ spot.net
  pub x : at.x ≡ spot.x
  pub y : at.y ≡ spot.y
  pub via : at.via ≡ spot.via
  pub layer : at.layer ≡ (via_at vias spot.via).lower
  pub held : IsTrue at.held ↔ IsHeld pieces at.net at.layer at.x at.y
  pub is_number : at.number ≡ number

-- All of them, in their order.
pub record AreViasAt (vias : List NamedVia) (pieces : List Piece) (spots : List Spot) (placed : List ViaAt) : Type 0 where
  pub as_many : length placed ≡ length spots
  pub each : (k : ℕ) (spot : Spot) (at : ViaAt) → slice_get spots k ≡ Some spot → slice_get placed k ≡ Some at
      → IsViaAt vias pieces k spot at

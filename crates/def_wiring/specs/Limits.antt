-- What every record of wiring that is read keeps.
use Rattle.std.specs.Prelude.{◌≡◌, ◌⊎◌, ℕ, ◌^◌, ◌≤◌, ℤ, pos, ◌≤ℤ◌, ◌<ℤ◌, unsigned_abs, List, map, All, Contains}
use Rattle.def_wiring.specs.declared.record.Segment.{Segment}
use Rattle.def_wiring.specs.declared.record.ViaDef.{ViaDef}
use Rattle.def_wiring.specs.declared.record.ViaPlace.{ViaPlace}
use Rattle.def_wiring.specs.declared.record.WiredNet.{WiredNet}
use Rattle.def_wiring.specs.declared.record.Wires.{Wires}
use Rattle.name_table.specs.Numbering.{AreDistinct}

-- At most 2^30 from 0.
abbrev pub IsNear : ℤ → Type 0
IsNear z = unsigned_abs z ≤ 2 ^ 30

-- The same, and not below 0.
abbrev pub IsLength : ℤ → Type 0
IsLength z = (pos 0 ≤ℤ z) × IsNear z

-- The same, and neither 0 nor below it.
abbrev pub IsPositive : ℤ → Type 0
IsPositive z = (pos 0 <ℤ z) × IsNear z

pub record ViaKeeps (via : ViaDef) : Type 0 where
  pub cut_x : IsPositive via.cut_x
  pub cut_y : IsPositive via.cut_y
  pub gap_x : IsLength via.gap_x
  pub gap_y : IsLength via.gap_y
  pub lower_x : IsLength via.lower_x
  pub lower_y : IsLength via.lower_y
  pub upper_x : IsLength via.upper_x
  pub upper_y : IsLength via.upper_y
  pub rows : IsPositive via.rows
  pub columns : IsPositive via.columns

pub record SegmentKeeps (segment : Segment) : Type 0 where
  pub width : IsLength segment.width
  pub x1 : IsNear segment.x1
  pub y1 : IsNear segment.y1
  pub e1 : IsLength segment.e1
  pub x2 : IsNear segment.x2
  pub y2 : IsNear segment.y2
  pub e2 : IsLength segment.e2
  -- It lies along x or along y.
  pub straight : (segment.x1 ≡ segment.x2) ⊎ (segment.y1 ≡ segment.y2)

pub record PlaceKeeps (place : ViaPlace) : Type 0 where
  pub x : IsNear place.x
  pub y : IsNear place.y

-- The via is one of these.
abbrev pub IsKnown : List (List ℕ) → ViaPlace → Type 0
IsKnown names place = Contains names place.via

pub record NetKeeps (net : WiredNet) : Type 0 where
  pub segments : All SegmentKeeps net.segments
  pub vias : All PlaceKeeps net.vias

abbrev pub NetKnown : List (List ℕ) → WiredNet → Type 0
NetKnown names net = All (IsKnown names) net.vias

abbrev pub via_name : ViaDef → List ℕ
via_name via = via.name

abbrev pub net_name : WiredNet → List ℕ
net_name net = net.name

-- Numbers are within their limits, names stand once, and each via that is placed is one of the record.
pub record WiresKeep (wires : Wires) : Type 0 where
  pub vias : All ViaKeeps wires.vias
  pub via_names : AreDistinct (map via_name wires.vias)
  pub nets : All NetKeeps wires.nets
  pub net_names : AreDistinct (map net_name wires.nets)
  pub known : All (NetKnown (map via_name wires.vias)) wires.nets

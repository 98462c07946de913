-- What wiring with places for names keeps: places stand, and numbers are within their limits.
use Rattle.std.specs.Prelude.{ℕ, ◌<◌, ◌≤◌, ◌^◌, ℤ, pos, ◌≤ℤ◌, unsigned_abs, All, length}
use Rattle.geom_rect.specs.declared.drawn.Drawn.{Drawn}
use Rattle.lef_tech.specs.declared.tech.Tech.{Tech}
use Rattle.def_wiring.specs.Limits.{IsNear, IsLength, IsPositive}
use Rattle.wire_names.specs.declared.record.NamedVia.{NamedVia}
use Rattle.wire_names.specs.declared.record.NamedWires.{NamedWires}
use Rattle.wire_names.specs.declared.record.Spot.{Spot}

-- At most 2^31 from 0.
abbrev pub IsWithin : ℤ → Type 0
IsWithin z = unsigned_abs z ≤ 2 ^ 31

-- A via has cuts, and its numbers are within their limits.
pub record KeepsNumbers (via : NamedVia) : Type 0 where
  pub some_columns : 1 ≤ via.columns
  pub columns : via.columns ≤ 2 ^ 30
  pub some_rows : 1 ≤ via.rows
  pub rows : via.rows ≤ 2 ^ 30
  pub cut_x : IsPositive via.cut_x
  pub cut_y : IsPositive via.cut_y
  pub some_x : pos 1 ≤ℤ via.pitch_x
  pub pitch_x : IsWithin via.pitch_x
  pub some_y : pos 1 ≤ℤ via.pitch_y
  pub pitch_y : IsWithin via.pitch_y
  pub lower_x : IsLength via.lower_x
  pub lower_y : IsLength via.lower_y
  pub upper_x : IsLength via.upper_x
  pub upper_y : IsLength via.upper_y

-- It has its layers and its rule among so many, too.
pub record ViaStands (layers cuts rules : ℕ) (via : NamedVia) : Type 0 where
  pub rule : via.rule < rules
  pub lower : via.lower < layers
  pub cut : via.cut < cuts
  pub upper : via.upper < layers
  pub keeps : KeepsNumbers via

-- A shape is of one of the two nets and lies on a routing layer.
pub record ShapeStands (layers : ℕ) (shape : Drawn) : Type 0 where
  pub net : shape.net < 2
  pub layer : shape.layer < layers
  pub width : IsLength shape.width
  pub centre : IsNear shape.centre
  pub from : IsWithin shape.from
  pub to : IsWithin shape.to

-- A via that is placed is of one of the two nets and is defined.
pub record SpotStands (vias : ℕ) (spot : Spot) : Type 0 where
  pub net : spot.net < 2
  pub via : spot.via < vias
  pub x : IsNear spot.x
  pub y : IsNear spot.y

pub record NamedKeep (tech : Tech) (named : NamedWires) : Type 0 where
  pub vias : All (ViaStands (length tech.routing) (length tech.cuts) (length tech.rules)) named.vias
  pub shapes : All (ShapeStands (length tech.routing)) named.shapes
  pub spots : All (SpotStands (length named.vias)) named.spots

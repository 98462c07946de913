-- Segments of wiring (LEF/DEF 5.8 Language Reference, SPECIALNETS; "Layer (Routing)", RESISTANCE RPERSQ).
use Rattle.std.specs.Prelude.{◌≢◌, ℕ, map, Option, None, slice_index_or}
use Rattle.geom_rect.specs.Drawn.{IsWidth}
use Rattle.geom_rect.specs.declared.drawn.Drawn.{Drawn}
use Rattle.lef_tech.specs.declared.layer.RoutingLayer.{RoutingLayer}
use Rattle.lef_tech.specs.declared.tech.Tech.{Tech}
use Rattle.def_wiring.specs.declared.record.Segment.{Segment}
use Rattle.def_wiring.specs.declared.record.WiredNet.{WiredNet}
use Rattle.def_wiring.specs.declared.record.Wires.{Wires}
use Rattle.wire_limits.specs.First.{IsFirstWithout, EachHas}

-- The width of a segment is positive and even.
abbrev pub IsEven : Segment → Type 0
IsEven segment = IsWidth segment.width

abbrev pub AreEven : WiredNet → Type 0
AreEven net = EachHas IsEven net.segments

-- The first segment of another width: that of the first net which has one.
pub record IsFirstOdd (wires : Wires) (place : ℕ) (segment : Segment) : Type 0 where
  pub net : WiredNet
  pub first_net : IsFirstWithout AreEven wires.nets place net
  pub number : ℕ
  pub first_segment : IsFirstWithout IsEven net.segments number segment

-- The resistance of a square of a routing layer.
abbrev pub sheet_of : Tech → ℕ → Option ℕ
sheet_of tech layer = slice_index_or (map (λ (l : RoutingLayer). l.sheet) tech.routing) layer None

-- The layer of a shape has one.
abbrev pub HasSheet : Tech → Drawn → Type 0
HasSheet tech shape = sheet_of tech shape.layer ≢ None

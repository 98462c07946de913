-- What refuses wiring before its stacks are looked for, of several causes the first.
use Rattle.std.specs.Prelude.{◌≡◌, ℕ, ◌<◌, ◌≤◌, ℤ, length}
use Rattle.geom_rect.specs.declared.drawn.Drawn.{Drawn}
use Rattle.lef_tech.specs.declared.tech.Tech.{Tech}
use Rattle.def_wiring.specs.declared.record.Segment.{Segment}
use Rattle.def_wiring.specs.declared.record.Wires.{Wires}
use Rattle.wire_names.specs.declared.record.NamedVia.{NamedVia}
use Rattle.wire_names.specs.declared.record.NamedWires.{NamedWires}
use Rattle.wire_limits.specs.declared.error.LimitError.{LimitError}
use Rattle.wire_limits.specs.declared.error.LimitError.TheVariants.{ViaLayers, ViaSize, OddWidth, NoSheet, NoResistance, TooMany, Want}
use Rattle.wire_limits.specs.declared.error.WireCount.TheVariants.{Segments, Vias}
use Rattle.wire_limits.specs.First.{IsFirstWithout, EachHas}
use Rattle.wire_limits.specs.Segments.{AreEven, HasSheet, IsFirstOdd}
use Rattle.wire_limits.specs.Vias.{HasItsLayers, HasSize, HasCutResistance, IsFirstUsedWithout, EachUsedHas}

-- Each used via has the layers of its rule; each has its size; the width of each segment is even; the layer of each segment
-- has a resistance of a square; each used via has a resistance of a cut; there are not too many segments, nor too many vias.
abbrev pub LayersFit : Tech → NamedWires → Type 0
LayersFit tech named = EachUsedHas (HasItsLayers tech) named.vias named.spots

abbrev pub SizesFit : NamedWires → Type 0
SizesFit named = EachUsedHas HasSize named.vias named.spots

abbrev pub WidthsFit : Wires → Type 0
WidthsFit wires = EachHas AreEven wires.nets

abbrev pub SheetsStand : Tech → NamedWires → Type 0
SheetsStand tech named = EachHas (HasSheet tech) named.shapes

abbrev pub CutsStand : Tech → NamedWires → Type 0
CutsStand tech named = EachUsedHas (HasCutResistance tech) named.vias named.spots

-- At most a million segments, and at most a million vias (this project).
abbrev pub most_segments : ℕ
most_segments = 1000000

abbrev pub most_vias : ℕ
most_vias = 1000000

-- Nothing refuses it.
pub record AreWithin (tech : Tech) (wires : Wires) (named : NamedWires) : Type 0 where
  pub layers : LayersFit tech named
  pub sizes : SizesFit named
  pub widths : WidthsFit wires
  pub sheets : SheetsStand tech named
  pub cuts : CutsStand tech named
  pub segments : length named.shapes ≤ most_segments
  pub vias : length named.spots ≤ most_vias

-- The layer of the first segment without a resistance of a square.
pub record IsFirstBare (tech : Tech) (named : NamedWires) (layer : ℕ) : Type 0 where
  pub place : ℕ
  pub shape : Drawn
  pub first : IsFirstWithout (HasSheet tech) named.shapes place shape
  pub on_layer : shape.layer ≡ layer

-- The lower layer of the first used via without a resistance of a cut.
pub record IsFirstWithoutCut (tech : Tech) (named : NamedWires) (layer : ℕ) : Type 0 where
  pub place : ℕ
  pub via : NamedVia
  pub first : IsFirstUsedWithout (HasCutResistance tech) named.vias named.spots place via
  pub on_layer : via.lower ≡ layer

-- A segment of the net at this place has this width, the first that is odd or 0.
abbrev pub HasOddWidth : Wires → ℕ → ℤ → Type 0
HasOddWidth wires net width = (segment : Segment) × IsFirstOdd wires net segment × (segment.width ≡ width)

-- Why it is refused: the first cause in this order, and of one cause the first in the order of the text. Want of memory is
-- free.
abbrev pub AreRefused : Tech → Wires → NamedWires → LimitError → Type 0
AreRefused tech wires named (ViaLayers via) =
    (entry : NamedVia) × IsFirstUsedWithout (HasItsLayers tech) named.vias named.spots via entry
AreRefused tech wires named (ViaSize via) = LayersFit tech named
    × ((entry : NamedVia) × IsFirstUsedWithout HasSize named.vias named.spots via entry)
AreRefused tech wires named (OddWidth net width) = LayersFit tech named × SizesFit named × HasOddWidth wires net width
AreRefused tech wires named (NoSheet layer) = LayersFit tech named × SizesFit named × WidthsFit wires
    × IsFirstBare tech named layer
AreRefused tech wires named (NoResistance layer) = LayersFit tech named × SizesFit named × WidthsFit wires
    × SheetsStand tech named × IsFirstWithoutCut tech named layer
AreRefused tech wires named (TooMany Segments) = LayersFit tech named × SizesFit named × WidthsFit wires
    × SheetsStand tech named × CutsStand tech named × (most_segments < length named.shapes)
AreRefused tech wires named (TooMany Vias) = LayersFit tech named × SizesFit named × WidthsFit wires
    × SheetsStand tech named × CutsStand tech named × (length named.shapes ≤ most_segments)
    × (most_vias < length named.spots)
AreRefused tech wires named Want = Unit {0}

-- What each stage refuses.
use Rattle.std.specs.Prelude.{ℕ, ◌<◌, ◌≤◌}
use Rattle.lef_tech.specs.declared.tech.Tech.{Tech}
use Rattle.def_wiring.specs.declared.record.Wires.{Wires}
use Rattle.wire_names.specs.declared.record.NamedVia.{NamedVia}
use Rattle.wire_names.specs.declared.record.NamedWires.{NamedWires}
use Rattle.wire_limits.specs.declared.error.LimitError.{LimitError}
use Rattle.wire_limits.specs.declared.error.LimitError.TheVariants.{ViaLayers, ViaSize, OddWidth, NoSheet, NoResistance, TooMany, Want}
use Rattle.wire_limits.specs.declared.error.WireCount.TheVariants.{Segments, Vias}
use Rattle.wire_limits.specs.Limits.{HasOddWidth, IsFirstBare, IsFirstWithoutCut, most_segments, most_vias}
use Rattle.wire_limits.specs.Vias.{HasItsLayers, HasSize, IsFirstUsedWithout}

abbrev pub HaveOtherLayers : Tech → NamedWires → LimitError → Type 0
HaveOtherLayers tech named (ViaLayers via) =
    (entry : NamedVia) × IsFirstUsedWithout (HasItsLayers tech) named.vias named.spots via entry
HaveOtherLayers tech named Want = Unit {0}
HaveOtherLayers tech named _ = ⊥

abbrev pub AreTooLong : NamedWires → LimitError → Type 0
AreTooLong named (ViaSize via) = (entry : NamedVia) × IsFirstUsedWithout HasSize named.vias named.spots via entry
AreTooLong named Want = Unit {0}
AreTooLong named _ = ⊥

abbrev pub AreOdd : Wires → LimitError → Type 0
AreOdd wires (OddWidth net width) = HasOddWidth wires net width
AreOdd wires Want = Unit {0}
AreOdd wires _ = ⊥

abbrev pub AreBare : Tech → NamedWires → LimitError → Type 0
AreBare tech named (NoSheet layer) = IsFirstBare tech named layer
AreBare tech named _ = ⊥

abbrev pub AreWithoutCuts : Tech → NamedWires → LimitError → Type 0
AreWithoutCuts tech named (NoResistance layer) = IsFirstWithoutCut tech named layer
AreWithoutCuts tech named _ = ⊥

abbrev pub AreMany : ℕ → ℕ → LimitError → Type 0
AreMany segments vias (TooMany Segments) = most_segments < segments
AreMany segments vias (TooMany Vias) = (segments ≤ most_segments) × (most_vias < vias)
AreMany segments vias _ = ⊥

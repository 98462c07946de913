-- What refuses a stage refuses the whole, where the stages before it stand.
use Rattle.std.proofs.Common.{length}
use Rattle.lef_tech.specs.declared.tech.Tech.{Tech}
use Rattle.def_wiring.specs.declared.record.Wires.{Wires}
use Rattle.wire_names.specs.declared.record.NamedWires.{NamedWires}
use Rattle.wire_limits.specs.declared.error.LimitError.{LimitError}
use Rattle.wire_limits.specs.declared.error.LimitError.TheVariants.{ViaLayers, ViaSize, OddWidth, NoSheet, NoResistance, TooMany, Want}
use Rattle.wire_limits.specs.declared.error.WireCount.TheVariants.{Segments, Vias}
use Rattle.wire_limits.specs.Limits.{AreRefused, LayersFit, SizesFit, WidthsFit, SheetsStand, CutsStand}
use Rattle.wire_limits.specs.inside.Counts.{AreMany, HaveOtherLayers, AreTooLong, AreOdd, AreBare, AreWithoutCuts}

pub layers_refused : (tech : Tech) (wires : Wires) (named : NamedWires) (e : LimitError) → HaveOtherLayers tech named e → AreRefused tech wires named e
layers_refused tech wires named (ViaLayers via) h = h
layers_refused tech wires named (ViaSize via) h = absurd h
layers_refused tech wires named (OddWidth net width) h = absurd h
layers_refused tech wires named (NoSheet layer) h = absurd h
layers_refused tech wires named (NoResistance layer) h = absurd h
layers_refused tech wires named (TooMany what) h = absurd h
layers_refused tech wires named Want h = tt

pub sizes_refused : (tech : Tech) (wires : Wires) (named : NamedWires) (e : LimitError) → LayersFit tech named → AreTooLong named e → AreRefused tech wires named e
sizes_refused tech wires named (ViaLayers via) layers h = absurd h
sizes_refused tech wires named (ViaSize via) layers h = (layers, h)
sizes_refused tech wires named (OddWidth net width) layers h = absurd h
sizes_refused tech wires named (NoSheet layer) layers h = absurd h
sizes_refused tech wires named (NoResistance layer) layers h = absurd h
sizes_refused tech wires named (TooMany what) layers h = absurd h
sizes_refused tech wires named Want layers h = tt

pub widths_refused : (tech : Tech) (wires : Wires) (named : NamedWires) (e : LimitError) → LayersFit tech named → SizesFit named → AreOdd wires e
    → AreRefused tech wires named e
widths_refused tech wires named (ViaLayers via) layers sizes h = absurd h
widths_refused tech wires named (ViaSize via) layers sizes h = absurd h
widths_refused tech wires named (OddWidth net width) layers sizes h = (layers, sizes, h)
widths_refused tech wires named (NoSheet layer) layers sizes h = absurd h
widths_refused tech wires named (NoResistance layer) layers sizes h = absurd h
widths_refused tech wires named (TooMany what) layers sizes h = absurd h
widths_refused tech wires named Want layers sizes h = tt

pub sheets_refused : (tech : Tech) (wires : Wires) (named : NamedWires) (e : LimitError) → LayersFit tech named → SizesFit named → WidthsFit wires
    → AreBare tech named e → AreRefused tech wires named e
sheets_refused tech wires named (ViaLayers via) layers sizes widths h = absurd h
sheets_refused tech wires named (ViaSize via) layers sizes widths h = absurd h
sheets_refused tech wires named (OddWidth net width) layers sizes widths h = absurd h
sheets_refused tech wires named (NoSheet layer) layers sizes widths h = (layers, sizes, widths, h)
sheets_refused tech wires named (NoResistance layer) layers sizes widths h = absurd h
sheets_refused tech wires named (TooMany what) layers sizes widths h = absurd h
sheets_refused tech wires named Want layers sizes widths h = tt

pub cuts_refused : (tech : Tech) (wires : Wires) (named : NamedWires) (e : LimitError) → LayersFit tech named → SizesFit named → WidthsFit wires
    → SheetsStand tech named → AreWithoutCuts tech named e → AreRefused tech wires named e
cuts_refused tech wires named (ViaLayers via) layers sizes widths sheets h = absurd h
cuts_refused tech wires named (ViaSize via) layers sizes widths sheets h = absurd h
cuts_refused tech wires named (OddWidth net width) layers sizes widths sheets h = absurd h
cuts_refused tech wires named (NoSheet layer) layers sizes widths sheets h = absurd h
cuts_refused tech wires named (NoResistance layer) layers sizes widths sheets h = (layers, sizes, widths, sheets, h)
cuts_refused tech wires named (TooMany what) layers sizes widths sheets h = absurd h
cuts_refused tech wires named Want layers sizes widths sheets h = tt

pub counts_refused : (tech : Tech) (wires : Wires) (named : NamedWires) (e : LimitError) → LayersFit tech named → SizesFit named → WidthsFit wires
    → SheetsStand tech named → CutsStand tech named → AreMany (length named.shapes) (length named.spots) e → AreRefused tech wires named e
counts_refused tech wires named (ViaLayers via) layers sizes widths sheets cuts h = absurd h
counts_refused tech wires named (ViaSize via) layers sizes widths sheets cuts h = absurd h
counts_refused tech wires named (OddWidth net width) layers sizes widths sheets cuts h = absurd h
counts_refused tech wires named (NoSheet layer) layers sizes widths sheets cuts h = absurd h
counts_refused tech wires named (NoResistance layer) layers sizes widths sheets cuts h = absurd h
counts_refused tech wires named (TooMany Segments) layers sizes widths sheets cuts h = (layers, sizes, widths, sheets, cuts, h)
counts_refused tech wires named (TooMany Vias) layers sizes widths sheets cuts h = (layers, sizes, widths, sheets, cuts, h.0, h.1)
counts_refused tech wires named Want layers sizes widths sheets cuts h = tt

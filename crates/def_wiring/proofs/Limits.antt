-- What a record keeps, by what its units say.
use Rattle.std.proofs.Common.{◌≡◌, ◌≤◌, ℕ, ℤ, pos, ◌≤ℤ◌, ◌<ℤ◌, List, map, All, Option, Some, None, refl, sym, ◌∙◌, subst, arith}
use Rattle.std.proofs.lemmas.Int.{ints}
use Rattle.entry_list.specs.InTurn.{InTurn}
use Rattle.entry_list.specs.Laws.{in-turn-all, in-turn-names}
use Rattle.name_table.specs.Numbering.{AreDistinct}
use Rattle.named_entries.specs.Laws.{names-differ}
use Rattle.def_wiring.specs.declared.held.Sections.{Sections}
use Rattle.def_wiring.specs.declared.number.Quantity.TheVariants.{Any, NotNegative, Positive}
use Rattle.def_wiring.specs.declared.record.Segment.{Segment}
use Rattle.def_wiring.specs.declared.record.ViaDef.{ViaDef}
use Rattle.def_wiring.specs.declared.record.ViaPlace.{ViaPlace}
use Rattle.def_wiring.specs.declared.record.WiredNet.{WiredNet}
use Rattle.def_wiring.specs.declared.record.Wires.{Wires}
use Rattle.def_wiring.specs.inside.Held.{Tells, net_said}
use Rattle.def_wiring.specs.Limits.{IsNear, IsLength, IsPositive, ViaKeeps, SegmentKeeps, PlaceKeeps, NetKeeps, IsKnown, NetKnown, via_name, net_name, WiresKeep}
use Rattle.def_wiring.specs.Number.{place_of, IsNumber}
use Rattle.def_wiring.specs.Record.{SaidVia, SaidSegment, SaidPlace, SaidNet, Said, IsReach, SaysVia, SaysSegment, SaysPlace, SaysNet, said_name}
use Rattle.def_wiring.proofs.Numbers.{Limited, Signed}

near : Limited → (text : List ℕ) (v : ℤ) → IsNumber Any text v → IsNear v
near limited text v h = limited (place_of Any) text v h

length_kept : Limited → Signed → (text : List ℕ) (v : ℤ) → IsNumber NotNegative text v → IsLength v
length_kept limited signed text v h = (signed (place_of NotNegative) text v h, limited (place_of NotNegative) text v h)

positive_kept : Limited → Signed → (text : List ℕ) (v : ℤ) → IsNumber Positive text v → IsPositive v
positive_kept limited signed text v h = (signed (place_of Positive) text v h, limited (place_of Positive) text v h)

zero_kept : (v : ℤ) → v ≡ pos 0 → IsLength v
zero_kept v e = subst IsLength (sym e) (omega (arith, ints), omega (arith, ints))

reach_kept : Limited → Signed → (reach : Option (List ℕ)) (v : ℤ) → IsReach reach v → IsLength v
reach_kept limited signed None v h = zero_kept v h
reach_kept limited signed (Some text) v h = length_kept limited signed text v h

via_kept : Limited → Signed → (said : SaidVia) (via : ViaDef) → SaysVia said via → ViaKeeps via
via_kept limited signed said via h = record {
  cut_x = positive_kept limited signed _ via.cut_x h.numbers.cut_x;
  cut_y = positive_kept limited signed _ via.cut_y h.numbers.cut_y;
  gap_x = length_kept limited signed _ via.gap_x h.numbers.gap_x;
  gap_y = length_kept limited signed _ via.gap_y h.numbers.gap_y;
  lower_x = length_kept limited signed _ via.lower_x h.numbers.lower_x;
  lower_y = length_kept limited signed _ via.lower_y h.numbers.lower_y;
  upper_x = length_kept limited signed _ via.upper_x h.numbers.upper_x;
  upper_y = length_kept limited signed _ via.upper_y h.numbers.upper_y;
  rows = positive_kept limited signed _ via.rows h.numbers.rows;
  columns = positive_kept limited signed _ via.columns h.numbers.columns;
}

segment_kept : Limited → Signed → (said : SaidSegment) (segment : Segment) → SaysSegment said segment → SegmentKeeps segment
segment_kept limited signed said segment h = record {
  width = length_kept limited signed said.width segment.width h.width;
  x1 = near limited said.from.x segment.x1 h.x1;
  y1 = near limited said.from.y segment.y1 h.y1;
  e1 = reach_kept limited signed said.from.reach segment.e1 h.e1;
  x2 = near limited said.to.x segment.x2 h.x2;
  y2 = near limited said.to.y segment.y2 h.y2;
  e2 = reach_kept limited signed said.to.reach segment.e2 h.e2;
  straight = h.straight;
}

place_kept : Limited → (said : SaidPlace) (place : ViaPlace) → SaysPlace said place → PlaceKeeps place
place_kept limited said place h = record {
  x = near limited said.x place.x h.x;
  y = near limited said.y place.y h.y;
}

net_kept : Limited → Signed → (said : SaidNet) (net : WiredNet) → SaysNet said net → NetKeeps net
net_kept limited signed said net h = record {
  segments = in-turn-all SaysSegment SegmentKeeps (segment_kept limited signed) said.segments net.segments h.segments;
  vias = in-turn-all SaysPlace PlaceKeeps (place_kept limited) said.places net.vias h.vias;
}

pub wires_keep : Limited → Signed → (said : Said) (held : Sections) (wires : Wires) → Tells said held → wires.vias ≡ held.vias.entries →
    wires.nets ≡ held.nets.entries → AreDistinct held.vias.names → AreDistinct held.nets.names → WiresKeep wires
wires_keep limited signed said held wires h vias nets vias_differ nets_differ =
    let names : map via_name held.vias.entries ≡ held.vias.names =
    in-turn-names SaysVia said_name via_name (λ line entry says. says.name) said.vias held.vias.entries h.vias.entries ∙ sym h.vias.names in
    record {
      vias = subst (λ (z : List ViaDef). All ViaKeeps z) (sym vias)
          (in-turn-all SaysVia ViaKeeps (via_kept limited signed) said.vias held.vias.entries h.vias.entries);
      via_names = subst (λ (z : List ViaDef). AreDistinct (map via_name z)) (sym vias)
          (names-differ SaysVia said_name via_name (λ line entry says. says.name) said.vias held.vias h.vias vias_differ);
      nets = subst (λ (z : List WiredNet). All NetKeeps z) (sym nets)
          (in-turn-all SaysNet NetKeeps (net_kept limited signed) said.nets held.nets.entries h.nets.entries);
      net_names = subst (λ (z : List WiredNet). AreDistinct (map net_name z)) (sym nets)
          (names-differ SaysNet net_said net_name (λ line entry says. says.name) said.nets held.nets h.nets nets_differ);
      known = subst (λ (z : List ViaDef). All (NetKnown (map via_name z)) wires.nets) (sym vias)
          (subst (λ (z : List (List ℕ)). All (NetKnown z) wires.nets) (sym names)
          (subst (λ (z : List WiredNet). All (NetKnown held.vias.names) z) (sym nets) h.nets_known));
    }

-- Wiring with places for names, and what refuses it (LEF/DEF 5.8 Language Reference, VIAS and SPECIALNETS).
use Rattle.std.specs.Prelude.{◌≡◌, ◌≢◌, ◌⊎◌, ℕ, ℤ, ◌+ℤ◌, ◌-ℤ◌, unsigned_abs, int_lt, Bool, true, false, cond, List, [], ◌∷◌, length, map, Some, None}
use Rattle.std.specs.Bool.{MatchBool}
use Rattle.std.specs.List.{flat_map}
use Rattle.std.specs.Ordering.{int_eq}
use Rattle.name_table.specs.ByteOrder.{IsBefore}
use Rattle.geom_rect.specs.declared.direction.Axis.TheVariants.{X, Y}
use Rattle.geom_rect.specs.declared.drawn.Drawn.{Drawn}
use Rattle.lef_tech.specs.declared.tech.Tech.{Tech}
use Rattle.def_wiring.specs.declared.record.Segment.{Segment}
use Rattle.def_wiring.specs.declared.record.ViaDef.{ViaDef}
use Rattle.def_wiring.specs.declared.record.ViaPlace.{ViaPlace}
use Rattle.def_wiring.specs.declared.record.WiredNet.{WiredNet}
use Rattle.def_wiring.specs.declared.record.Wires.{Wires}
use Rattle.wire_names.specs.declared.error.NameError.{NameError}
use Rattle.wire_names.specs.declared.error.NameError.TheVariants.{UnknownName, NetCount, Want}
use Rattle.wire_names.specs.declared.record.NamedVia.{NamedVia}
use Rattle.wire_names.specs.declared.record.NamedWires.{NamedWires}
use Rattle.wire_names.specs.declared.record.Spot.{Spot}
use Rattle.wire_names.specs.Names.{Names, names_of, place_in, first_unknown}
use Rattle.wire_names.specs.Nets.{wired_nets, net_number}

-- A via with these places of its rule and its layers. From the centre of a cut to that of the next one it is the gap and the
-- cut.
abbrev pub via_with : ℕ → ℕ → ℕ → ℕ → ViaDef → NamedVia
via_with rule lower cut upper via = record {
  rule = rule;
  lower = lower;
  cut = cut;
  upper = upper;
  columns = unsigned_abs via.columns;
  rows = unsigned_abs via.rows;
  cut_x = via.cut_x;
  cut_y = via.cut_y;
  pitch_x = via.gap_x +ℤ via.cut_x;
  pitch_y = via.gap_y +ℤ via.cut_y;
  lower_x = via.lower_x;
  lower_y = via.lower_y;
  upper_x = via.upper_x;
  upper_y = via.upper_y;
}

-- A via with the places of its names.
abbrev pub via_of : Names → ViaDef → NamedVia
via_of names via = via_with (place_in names.rules via.rule) (place_in names.layers via.lower) (place_in names.cuts via.cut)
    (place_in names.layers via.upper) via

-- A line from a point to another, each with its lengthening: where it begins and where it ends.
abbrev pub low_end : ℤ → ℤ → ℤ → ℤ → ℤ
low_end one first other second = cond (int_lt other one) (other -ℤ second) (one -ℤ first)

abbrev pub high_end : ℤ → ℤ → ℤ → ℤ → ℤ
high_end one first other second = cond (int_lt other one) (one +ℤ first) (other +ℤ second)

-- The shape of a segment along x, and of one along y: beyond each of its points by the lengthening there.
abbrev pub along_x : ℕ → ℕ → Segment → Drawn
along_x net layer s = record {
  net = net;
  layer = layer;
  axis = X;
  centre = s.y1;
  width = s.width;
  from = low_end s.x1 s.e1 s.x2 s.e2;
  to = high_end s.x1 s.e1 s.x2 s.e2;
  shape = s.shape;
}

abbrev pub along_y : ℕ → ℕ → Segment → Drawn
along_y net layer s = record {
  net = net;
  layer = layer;
  axis = Y;
  centre = s.x1;
  width = s.width;
  from = low_end s.y1 s.e1 s.y2 s.e2;
  to = high_end s.y1 s.e1 s.y2 s.e2;
  shape = s.shape;
}

-- The shape of a segment: along x where its two points have one y, else along y.
abbrev pub shape_of : Names → ℕ → Segment → Drawn
shape_of names net s = cond (int_eq s.y1 s.y2) (along_x net (place_in names.layers s.layer) s)
    (along_y net (place_in names.layers s.layer) s)

abbrev pub shapes_of : Names → Bool → WiredNet → List Drawn
shapes_of names power_first net = map (shape_of names (net_number power_first net.power)) net.segments

-- Where a via stands.
abbrev pub spot_of : Names → ℕ → ViaPlace → Spot
spot_of names net place = record { net = net; via = place_in names.vias place.via; x = place.x; y = place.y }

abbrev pub spots_of : Names → Bool → WiredNet → List Spot
spots_of names power_first net = map (spot_of names (net_number power_first net.power)) net.vias

-- All names are known, and one power net and one ground net have wiring. These are their names, which comes first in byte
-- order, and the vias, shapes and places of vias, in the order of the text.
pub record AreNamed (tech : Tech) (wires : Wires) (named : NamedWires) : Type 0 where
  pub known : first_unknown (names_of tech wires) wires ≡ None
  pub power : map (λ (net : WiredNet). net.name) (wired_nets true wires) ≡ named.power ∷ []
  pub ground : map (λ (net : WiredNet). net.name) (wired_nets false wires) ≡ named.ground ∷ []
  pub order : MatchBool named.power_first (IsBefore named.power named.ground) (IsBefore named.ground named.power)
  pub vias : named.vias ≡ map (via_of (names_of tech wires)) wires.vias
  pub shapes : named.shapes ≡ flat_map (shapes_of (names_of tech wires) named.power_first) wires.nets
  pub spots : named.spots ≡ flat_map (spots_of (names_of tech wires) named.power_first) wires.nets

-- All names are known, and so many power nets and ground nets have wiring, but not one of each.
pub record AreOtherNets (tech : Tech) (wires : Wires) (power ground : ℕ) : Type 0 where
  pub known : first_unknown (names_of tech wires) wires ≡ None
  pub power_is : power ≡ length (wired_nets true wires)
  pub ground_is : ground ≡ length (wired_nets false wires)
  pub other : (power ≢ 1) ⊎ (ground ≢ 1)

-- Why wiring has none: the first name that is not known; the nets. Want of memory is free.
abbrev pub AreUnnamed : Tech → Wires → NameError → Type 0
AreUnnamed tech wires (UnknownName name) = first_unknown (names_of tech wires) wires ≡ Some name
AreUnnamed tech wires (NetCount power ground) = AreOtherNets tech wires power ground
AreUnnamed tech wires Want = Unit {0}

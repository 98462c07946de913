-- The wires of a wiring that is given in names and numbers (LEF/DEF 5.8 Language Reference, VIAS and SPECIALNETS).
use Rattle.std.specs.Prelude.{◌≡◌, ◌⊎◌, true, false, ℕ, Bool, List, pos, map, codes}
use Rattle.entry_list.specs.InTurn.{InTurn}
use Rattle.def_wiring.specs.declared.record.Segment.{Segment}
use Rattle.def_wiring.specs.declared.record.ViaDef.{ViaDef}
use Rattle.def_wiring.specs.declared.record.ViaPlace.{ViaPlace}
use Rattle.def_wiring.specs.declared.record.WiredNet.{WiredNet}
use Rattle.def_wiring.specs.declared.record.Wires.{Wires}
use Rattle.def_wiring.specs.Record.{HasShape}
use Rattle.def_wiring.specs.Sort.{sort_of_text}
use Rattle.wiring_file.specs.declared.record.PlaceText.{PlaceText}
use Rattle.wiring_file.specs.declared.record.ViaText.{ViaText}
use Rattle.wiring_file.specs.declared.record.WireText.{WireText}
use Rattle.wiring_file.specs.Written.{NetText}

-- The generated via of these names and numbers.
abbrev pub via_def : ViaText → ViaDef
via_def via = record {
  name = via.name;
  rule = via.rule;
  cut_x = via.cut_x;
  cut_y = via.cut_y;
  lower = via.lower;
  cut = via.cut;
  upper = via.upper;
  gap_x = via.gap_x;
  gap_y = via.gap_y;
  lower_x = via.lower_x;
  lower_y = via.lower_y;
  upper_x = via.upper_x;
  upper_y = via.upper_y;
  rows = via.rows;
  columns = via.columns;
}

-- The via of an array of a stack, at its point.
abbrev pub via_place : PlaceText → ViaPlace
via_place place = record { via = place.via; layer = place.layer; x = place.x; y = place.y }

-- The segment of a piece: its layer, its width and its two ends, which nothing lengthens. RING is a Ring, FOLLOWPIN along x
-- a FollowPin, and all else a Stripe.
pub record IsSegment (wire : WireText) (segment : Segment) : Type 0 where
  pub layer : segment.layer ≡ wire.layer
  pub width : segment.width ≡ wire.width
  pub x1 : segment.x1 ≡ wire.x1
  pub y1 : segment.y1 ≡ wire.y1
  pub e1 : segment.e1 ≡ pos 0
  pub x2 : segment.x2 ≡ wire.x2
  pub y2 : segment.y2 ≡ wire.y2
  pub e2 : segment.e2 ≡ pos 0
  pub shape : HasShape (sort_of_text wire.shape) segment.y1 segment.y2 segment.shape

-- The word of its use tells whether it is a power net.
abbrev pub IsUse : List ℕ → Bool → Type 0
IsUse supply power =
    ((supply ≡ codes "POWER") × (power ≡ true)) ⊎ ((supply ≡ codes "GROUND") × (power ≡ false))

pub record IsNet (net : NetText) (wired : WiredNet) : Type 0 where
  pub name : wired.name ≡ net.name
  pub power : IsUse net.supply wired.power
  pub segments : InTurn IsSegment net.wires wired.segments
  pub vias : wired.vias ≡ map via_place net.places

-- The wires: the vias, and the nets with their segments and the vias of their stacks, each list in its order.
pub record IsWired (via_texts : List ViaText) (net_texts : List NetText) (wires : Wires) : Type 0 where
  pub vias : wires.vias ≡ map via_def via_texts
  pub nets : InTurn IsNet net_texts wires.nets

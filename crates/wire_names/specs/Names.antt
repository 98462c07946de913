-- The names that wiring uses, the places at which they stand, and the first that is not known (LEF/DEF 5.8 Language
-- Reference, LAYER, VIARULE GENERATE; VIAS, SPECIALNETS).
use Rattle.std.specs.Prelude.{ℕ, if◌then◌else◌, List, [], ◌∷◌, map, Option, Some, None}
use Rattle.std.specs.Option.{is_some, option_or, unwrap_or}
use Rattle.name_places.specs.Places.{place_of}
use Rattle.lef_tech.specs.declared.layer.CutLayer.{CutLayer}
use Rattle.lef_tech.specs.declared.layer.RoutingLayer.{RoutingLayer}
use Rattle.lef_tech.specs.declared.rule.ViaRule.{ViaRule}
use Rattle.lef_tech.specs.declared.tech.Tech.{Tech}
use Rattle.def_wiring.specs.declared.record.Segment.{Segment}
use Rattle.def_wiring.specs.declared.record.ViaDef.{ViaDef}
use Rattle.def_wiring.specs.declared.record.ViaPlace.{ViaPlace}
use Rattle.def_wiring.specs.declared.record.WiredNet.{WiredNet}
use Rattle.def_wiring.specs.declared.record.Wires.{Wires}
use Rattle.def_wiring.specs.Limits.{via_name}

-- The names of the routing layers, the cut layers and the rules of a technology and of the vias of the wiring, each list
-- in its order.
pub record Names : Type 0 where
  pub layers : List (List ℕ)
  pub cuts : List (List ℕ)
  pub rules : List (List ℕ)
  pub vias : List (List ℕ)

abbrev pub names_of : Tech → Wires → Names
names_of tech wires = record {
  layers = map (λ (layer : RoutingLayer). layer.name) tech.routing;
  cuts = map (λ (layer : CutLayer). layer.name) tech.cuts;
  rules = map (λ (rule : ViaRule). rule.name) tech.rules;
  vias = map via_name wires.vias;
}

-- The place of a name, 0 where it stands nowhere.
abbrev pub place_in : List (List ℕ) → List ℕ → ℕ
place_in names name = unwrap_or (place_of names name) 0

-- What the first entry has of which something is found.
abbrev pub first_some : {X Y : Type 0} → (X → Option Y) → List X → Option Y
first_some found [] = None
first_some found (x ∷ xs) = option_or (found x) (first_some found xs)

-- The name, where it is none of these.
abbrev pub unknown : List (List ℕ) → List ℕ → Option (List ℕ)
unknown names name = if is_some (place_of names name) then None else Some name

-- The first name of a via that is not known: its rule, its lower layer, its cut layer, its upper layer.
abbrev pub unknown_in_via : Names → ViaDef → Option (List ℕ)
unknown_in_via names via = option_or (unknown names.rules via.rule) (option_or (unknown names.layers via.lower)
    (option_or (unknown names.cuts via.cut) (unknown names.layers via.upper)))

abbrev pub unknown_in_segment : Names → Segment → Option (List ℕ)
unknown_in_segment names segment = unknown names.layers segment.layer

-- The layer of the path of a via that is placed: the via's own layers count, and this one is only asked for.
abbrev pub unknown_in_place : Names → ViaPlace → Option (List ℕ)
unknown_in_place names place = unknown names.layers place.layer

abbrev pub unknown_in_net : Names → WiredNet → Option (List ℕ)
unknown_in_net names net = option_or (first_some (unknown_in_segment names) net.segments)
    (first_some (unknown_in_place names) net.vias)

-- The first of all: those of the vias, used or not, and then those of the nets.
abbrev pub first_unknown : Names → Wires → Option (List ℕ)
first_unknown names wires =
    option_or (first_some (unknown_in_via names) wires.vias) (first_some (unknown_in_net names) wires.nets)

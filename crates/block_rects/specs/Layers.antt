-- The layers of a technology by their names (LEF/DEF 5.8 Language Reference, LAYER).
use Rattle.std.specs.Prelude.{◌≡◌, ℕ, List, map, Option, Some, None}
use Rattle.name_places.specs.Places.{place_of}
use Rattle.lef_tech.specs.declared.layer.CutLayer.{CutLayer}
use Rattle.lef_tech.specs.declared.layer.LayerRef.{LayerRef}
use Rattle.lef_tech.specs.declared.layer.LayerRef.TheVariants.{Routing, Cut}
use Rattle.lef_tech.specs.declared.layer.RoutingLayer.{RoutingLayer}
use Rattle.lef_tech.specs.declared.tech.Tech.{Tech}
use Rattle.block_rects.specs.declared.names.LayerNames.{LayerNames}

abbrev pub routing_names : Tech → List (List ℕ)
routing_names tech = map (λ (layer : RoutingLayer). layer.name) tech.routing

abbrev pub cut_names : Tech → List (List ℕ)
cut_names tech = map (λ (layer : CutLayer). layer.name) tech.cuts

-- Tables have the names of a technology.
pub record HasNamesOf (tech : Tech) (names : LayerNames) : Type 0 where
  pub routing : names.routing ≡ routing_names tech
  pub cuts : names.cuts ≡ cut_names tech

-- The place of the routing layer of a name.
abbrev pub place_of_layer : Tech → List ℕ → Option ℕ
place_of_layer tech name = place_of (routing_names tech) name

abbrev pub first_layer : Option ℕ → Option ℕ → Option LayerRef
first_layer (Some place) cut = Some (Routing place)
first_layer None (Some place) = Some (Cut place)
first_layer None None = None

-- The layer of a name. None where the technology has no routing or cut layer of it.
abbrev pub layer_of : Tech → List ℕ → Option LayerRef
layer_of tech name = first_layer (place_of (routing_names tech) name) (place_of (cut_names tech) name)

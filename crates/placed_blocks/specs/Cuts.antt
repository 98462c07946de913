-- The layers on which a block cuts the shapes of other grids: those of its pins and obstructions, of the stripes and the ring of
-- its grid, and of rails of any grid (OpenROAD PDN manual, define_pdn_grid: -halo, add_pdn_stripe: -followpins, add_pdn_ring:
-- -layers).
use Rattle.std.specs.Prelude.{ℕ, Bool, false, ◌&&◌, ◌||◌, List, map, slice_get, Option, Some, None}
use Rattle.std.specs.Bool.{nat_eq}
use Rattle.std.specs.List.{list_any, enumerate_from}
use Rattle.std.specs.Str.{bytes_eq}
use Rattle.lef_tech.specs.declared.layer.LayerRef.{LayerRef}
use Rattle.lef_tech.specs.declared.layer.LayerRef.TheVariants.{Routing, Cut}
use Rattle.lef_tech.specs.declared.layer.RoutingLayer.{RoutingLayer}
use Rattle.lef_tech.specs.declared.tech.Tech.{Tech}
use Rattle.pdn_script.specs.declared.record.GridRule.{GridRule}
use Rattle.pdn_script.specs.declared.record.Ring.{Ring}
use Rattle.pdn_script.specs.declared.record.Script.{Script}
use Rattle.pdn_script.specs.declared.record.Stripe.{Stripe}
use Rattle.block_rects.specs.declared.part.Obstruction.{Obstruction}
use Rattle.block_rects.specs.declared.part.PinPart.{PinPart}

-- The name of the grid at a place.
abbrev pub grid_name : List GridRule → Option ℕ → Option (List ℕ)
grid_name grids None = None
grid_name grids (Some place) = slice_get (map (λ (grid : GridRule). grid.name) grids) place

abbrev pub is_name : Option (List ℕ) → List ℕ → Bool
is_name None name = false
is_name (Some own) name = bytes_eq own name

-- Stripes are on the layer of this name, and are rails, or are those of the grid of this name.
abbrev pub is_on : Option (List ℕ) → List ℕ → Stripe → Bool
is_on grid layer stripe = bytes_eq stripe.layer layer && (stripe.followpins || is_name grid stripe.grid)

-- A ring is that of the grid, and has the layer.
abbrev pub goes_round : Option (List ℕ) → List ℕ → Ring → Bool
goes_round grid layer ring = is_name grid ring.grid && list_any (bytes_eq layer) ring.layers

-- The part is on the routing layer at this place.
abbrev pub has_part : ℕ → PinPart → Bool
has_part place part = nat_eq part.layer place

abbrev pub is_routing : ℕ → LayerRef → Bool
is_routing place (Routing layer) = nat_eq layer place
is_routing place (Cut layer) = false

-- The obstruction is on the routing layer at this place.
abbrev pub obstructs : ℕ → Obstruction → Bool
obstructs place obstruction = is_routing place obstruction.layer

-- A block with these pins and obstructions, and the grid of this name, cuts on the routing layer with this place and this name.
abbrev pub is_cut : Script → Option (List ℕ) → List PinPart → List Obstruction → ℕ → List ℕ → Bool
is_cut script grid pins obstructions place layer = list_any (has_part place) pins || list_any (obstructs place) obstructions
    || list_any (is_on grid layer) script.stripes || list_any (goes_round grid layer) script.rings

-- For each routing layer whether it does.
abbrev pub cuts_of : Tech → Script → Option ℕ → List PinPart → List Obstruction → List Bool
cuts_of tech script grid pins obstructions = map
    (λ (at : ℕ × RoutingLayer). is_cut script (grid_name script.grids grid) pins obstructions at.0 at.1.name)
    (enumerate_from 0 tech.routing)

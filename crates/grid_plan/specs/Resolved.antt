-- What the commands of a script say, with places for names and units for lengths (OpenROAD PDN manual, set_voltage_domain,
-- define_pdn_grid, add_pdn_stripe, add_pdn_ring and add_pdn_connect).
use Rattle.std.specs.Prelude.{◌≡◌, ℕ, ℤ, pos, ◌-◌, ◌*◌, ◌/◌, ◌%◌, ◌+ℤ◌, min, max, true, false, Bool, if◌then◌else◌, List, map, length, slice_index_or, slice_get, reverse, Option, Some, None}
use Rattle.std.specs.Int.{div_ceil}
use Rattle.std.specs.Option.{unwrap_or, option_map}
use Rattle.geom_rect.specs.declared.direction.Axis.{Axis}
use Rattle.geom_rect.specs.declared.direction.Axis.TheVariants.{X, Y}
use Rattle.geom_rect.specs.declared.rect.Rect.{Rect}
use Rattle.geom_rect.specs.Rect.{grown_by}
use Rattle.lef_tech.specs.declared.layer.LayerRef.{LayerRef}
use Rattle.lef_tech.specs.declared.layer.LayerRef.TheVariants.{Routing, Cut}
use Rattle.lef_tech.specs.declared.layer.RoutingLayer.{RoutingLayer}
use Rattle.lef_tech.specs.declared.tech.Tech.{Tech}
use Rattle.def_design.specs.declared.record.Blockage.{Blockage}
use Rattle.def_design.specs.declared.record.Design.{Design}
use Rattle.def_design.specs.declared.record.Fence.{Fence}
use Rattle.pdn_script.specs.declared.record.Connect.{Connect as Said}
use Rattle.pdn_script.specs.declared.record.Domain.{Domain}
use Rattle.pdn_script.specs.declared.record.GridRule.{GridRule}
use Rattle.pdn_script.specs.declared.record.Ring.{Ring}
use Rattle.pdn_script.specs.declared.record.Script.{Script}
use Rattle.pdn_script.specs.declared.record.Start.{Start}
use Rattle.pdn_script.specs.declared.record.Start.TheVariants.{Power, Ground}
use Rattle.pdn_script.specs.declared.record.Stripe.{Stripe}
use Rattle.grid_pieces.specs.declared.grid.DomainAt.{DomainAt}
use Rattle.grid_pieces.specs.declared.piece.Block.{Block}
use Rattle.grid_stacks.specs.declared.connect.Connect.{Connect}
use Rattle.ring_layout.specs.declared.rule.RingRule.{RingRule}
use Rattle.strap_layout.specs.declared.rule.StrapRule.{StrapRule}
use Rattle.via_arrays.specs.Choice.{direction}
use Rattle.via_arrays.specs.Lengths.{in_units}
use Rattle.name_places.specs.Places.{place_of}
use Rattle.grid_plan.specs.declared.record.GridAt.{GridAt}
use Rattle.grid_plan.specs.declared.record.Rails.{Rails}
use Rattle.grid_plan.specs.declared.record.Reach.{Reach}
use Rattle.grid_plan.specs.declared.record.Reach.TheVariants as reaches
use Rattle.grid_plan.specs.declared.record.RingAt.{RingAt}
use Rattle.grid_plan.specs.declared.record.Straps.{Straps}
use Rattle.grid_plan.specs.Names.{Names, place_in}
use Rattle.grid_plan.specs.Unknown.{grid_nets}

-- ## lengths

-- A length of a script in units.
abbrev pub length_of : ℕ → ℕ → ℤ
length_of units length = pos (in_units units length)

-- How far metal of a routing layer keeps from metal, in units, rounded up.
abbrev pub spacing_of : Tech → ℕ → ℕ → ℤ
spacing_of tech units layer =
    pos (div_ceil (slice_index_or (map (λ (l : RoutingLayer). l.spacing) tech.routing) layer 0 * units) 1000000)

-- No script leaves out a pitch or a width that is asked for; a record that does has this length there, 2 µm.
abbrev pub unstated : ℕ
unstated = 2000000

-- The value at a place, where fewer values hold in turn.
abbrev pub value_at : List ℕ → ℕ → ℕ → ℕ
value_at values place default = slice_index_or values (place % length values) default

-- ## domains and grids

-- The rectangle of a region, of more than one the first.
abbrev pub region_at : Names → Design → Option (List ℕ) → Option Rect
region_at names design None = None
region_at names design (Some region) =
    slice_index_or (map (λ (fence : Fence). slice_get fence.rects 0) design.regions) (place_in names.regions region) None

-- A domain, where these are the nets.
pub record IsDomainAt (names : Names) (nets : List (List ℕ)) (design : Design) (domain : Domain) (at : DomainAt)
    : Type 0 where
  pub region : at.region ≡ region_at names design domain.region
  pub lower_net : at.ground ≡ place_in nets domain.ground
  pub upper_net : at.power ≡ place_in nets domain.power

abbrev pub grid_at : Names → GridRule → GridAt
grid_at names grid = record { domain = place_in names.domains grid.voltage_domains; over_macros = grid.macro_ }

-- ## nets of stripes and rings

-- The net that comes first: the own choice, or else that of the grid.
abbrev pub start_of : Names → Script → List ℕ → Option Start → Start
start_of names script grid own = unwrap_or own
    (slice_index_or (map (λ (g : GridRule). g.starts_with) script.grids) (place_in names.grids grid) Ground)

-- The two nets in their order.
abbrev pub in_order : Start → List (List ℕ) → List (List ℕ)
in_order Power nets = nets
in_order Ground nets = reverse nets

-- The nets that are stated, or else those of the domain.
abbrev pub nets_at : Names → List (List ℕ) → Script → List ℕ → Option Start → Option (List (List ℕ)) → List ℕ
nets_at names nets script grid own (Some stated) = map (place_in nets) stated
nets_at names nets script grid own None =
    map (place_in nets) (in_order (start_of names script grid own) (grid_nets names script grid))

-- ## stripes

-- The wider reach wins.
abbrev pub reach_of : Stripe → Reach
reach_of stripe =
    if stripe.extend_to_boundary then reaches.Die else (if stripe.extend_to_core_ring then reaches.Ring else reaches.Core)

-- From the centre of a line to that of the next net's: a width and the spacing, or else half of the pitch.
abbrev pub apart_of : ℕ → Stripe → Option ℕ → ℤ
apart_of units stripe (Some spacing) = length_of units stripe.width +ℤ length_of units spacing
apart_of units stripe None = pos (in_units units (unwrap_or stripe.pitch unstated) / 2)

abbrev pub strap_rule_of : Tech → Names → List (List ℕ) → Script → ℕ → Stripe → StrapRule
strap_rule_of tech names nets script units stripe = record {
  layer = place_in names.layers stripe.layer;
  axis = direction tech (place_in names.layers stripe.layer);
  nets = nets_at names nets script stripe.grid stripe.starts_with stripe.nets;
  width = length_of units stripe.width;
  pitch = length_of units (unwrap_or stripe.pitch unstated);
  apart = apart_of units stripe stripe.spacing;
  offset = length_of units stripe.offset;
  number = stripe.number_of_straps;
}

abbrev pub straps_of : Tech → Names → List (List ℕ) → Script → ℕ → Stripe → Straps
straps_of tech names nets script units stripe = record {
  grid = place_in names.grids stripe.grid;
  reach = reach_of stripe;
  spacing = spacing_of tech units (place_in names.layers stripe.layer);
  rule = strap_rule_of tech names nets script units stripe;
}

abbrev pub rails_of : Tech → Names → ℕ → Stripe → Rails
rails_of tech names units stripe = record {
  grid = place_in names.grids stripe.grid;
  reach = reach_of stripe;
  spacing = spacing_of tech units (place_in names.layers stripe.layer);
  layer = place_in names.layers stripe.layer;
  width = length_of units stripe.width;
}

-- ## rings

-- The place of a name that is stated.
abbrev pub place_at : List (List ℕ) → Option (List ℕ) → ℕ
place_at names None = 0
place_at names (Some name) = place_in names name

-- The place of the layer that stands at a place among those that are named.
abbrev pub layer_at : Names → List (List ℕ) → ℕ → ℕ
layer_at names layers k = place_at names.layers (slice_get layers k)

abbrev pub is_upright : Axis → Bool
is_upright X = false
is_upright Y = true

-- Which of the two layers is the vertical one: the first, or else the second.
abbrev pub upright_of : Tech → Names → Ring → ℕ
upright_of tech names ring = if is_upright (direction tech (layer_at names ring.layers 0)) then 0 else 1

-- The rule of a ring whose vertical layer is its first or second one. A value that is stated once holds on both layers,
-- an offset for two sides or for all four.
abbrev pub ring_rule_of : Names → List (List ℕ) → Script → ℕ → Ring → ℕ → RingRule
ring_rule_of names nets script units ring upright = record {
  vertical = layer_at names ring.layers upright;
  horizontal = layer_at names ring.layers (1 - upright);
  nets = nets_at names nets script ring.grid ring.starts_with ring.nets;
  width_v = length_of units (value_at ring.widths upright unstated);
  width_h = length_of units (value_at ring.widths (1 - upright) unstated);
  spacing_v = length_of units (value_at ring.spacings upright 0);
  spacing_h = length_of units (value_at ring.spacings (1 - upright) 0);
  left = length_of units (value_at ring.core_offsets 0 0);
  bottom = length_of units (value_at ring.core_offsets 1 0);
  right = length_of units (value_at ring.core_offsets 2 0);
  top = length_of units (value_at ring.core_offsets 3 0);
}

abbrev pub ring_of : Tech → Names → List (List ℕ) → Script → ℕ → Ring → RingAt
ring_of tech names nets script units ring = record {
  grid = place_in names.grids ring.grid;
  rule = ring_rule_of names nets script units ring (upright_of tech names ring);
}

-- ## connects

-- A connect of two layers, the lower one first.
abbrev pub joins : ℕ → ℕ → Option ℕ → Option ℕ → Connect
joins one other columns rows = record { from = min one other; to = max one other; max_columns = columns; max_rows = rows }

abbrev pub connect_of : Names → Said → Connect
connect_of names connect =
    joins (layer_at names connect.layers 0) (layer_at names connect.layers 1) connect.max_columns connect.max_rows

-- What a ring with -add_connect adds: a connect of its two layers, without stated rows or columns.
abbrev pub ring_connect_of : Names → Ring → Connect
ring_connect_of names ring = joins (layer_at names ring.layers 0) (layer_at names ring.layers 1) None None

-- ## blockages

abbrev pub first_layer : Option ℕ → Option ℕ → Option LayerRef
first_layer (Some k) cut = Some (Routing k)
first_layer None (Some k) = Some (Cut k)
first_layer None None = None

-- Cuts keep no spacing of their own.
abbrev pub layer_spacing : Tech → ℕ → LayerRef → ℤ
layer_spacing tech units (Routing k) = spacing_of tech units k
layer_spacing tech units (Cut k) = pos 0

-- The layer of a blockage; none where the technology has no routing or cut layer of the name.
abbrev pub blocked_layer : Names → List ℕ → Option LayerRef
blocked_layer names name = first_layer (place_of names.layers name) (place_of names.cuts name)

-- A blockage of a layer: plain, and grown by its own spacing, or else by the layer's.
abbrev pub block_at : Tech → ℕ → Blockage → LayerRef → Block
block_at tech units blockage layer = record {
  layer = layer;
  plain = blockage.rect;
  grown = grown_by blockage.rect (unwrap_or blockage.spacing (layer_spacing tech units layer));
}

-- A blockage of another layer blocks nothing.
abbrev pub block_of : Tech → Names → ℕ → Blockage → Option Block
block_of tech names units blockage = option_map (block_at tech units blockage) (blocked_layer names blockage.layer)

-- The pins of blocks as shapes (LEF/DEF 5.8 Language Reference, "MACRO", PIN and PORT; OpenROAD PDN manual, define_pdn_grid: -macro).
use Rattle.std.specs.Prelude.{ℕ, ◌+ℤ◌, Bool, if◌then◌else◌, List, [], map, slice_get, Option, Some, None}
use Rattle.std.specs.List.{flat_map}
use Rattle.geom_rect.specs.declared.drawn.Drawn.{Drawn}
use Rattle.geom_rect.specs.declared.drawn.Shape.TheVariants.{Stripe}
use Rattle.geom_rect.specs.Drawn.{half}
use Rattle.lef_tech.specs.declared.tech.Tech.{Tech}
use Rattle.via_arrays.specs.Choice.{direction}
use Rattle.grid_cores.specs.Line.{along, across}
use Rattle.grid_pieces.specs.declared.grid.DomainAt.{DomainAt}
use Rattle.block_rects.specs.declared.part.PinPart.{PinPart}
use Rattle.block_rects.specs.Limits.{size_across}
use Rattle.placed_blocks.specs.declared.block.PlacedBlock.{PlacedBlock}

-- The net of a domain of power, or that of ground.
abbrev pub net_of : DomainAt → Bool → ℕ
net_of domain power = if power then domain.power else domain.ground

-- A part of a pin of a block that the domain owns: a stripe along the direction of its layer.
abbrev pub pin_shape : Tech → DomainAt → PinPart → Drawn
pin_shape tech domain part = record {
  net = net_of domain part.power;
  layer = part.layer;
  axis = direction tech part.layer;
  centre = (across (direction tech part.layer) part.rect).from +ℤ half (size_across (direction tech part.layer) part.rect);
  width = size_across (direction tech part.layer) part.rect;
  from = (along (direction tech part.layer) part.rect).from;
  to = (along (direction tech part.layer) part.rect).to;
  shape = Stripe;
}

-- The domain that owns a block, where one does.
abbrev pub domain_of : List DomainAt → Option ℕ → Option DomainAt
domain_of domains None = None
domain_of domains (Some place) = slice_get domains place

-- The pins of a block; one that no domain owns has none.
abbrev pub pins_in : Tech → Option DomainAt → List PinPart → List Drawn
pins_in tech None parts = []
pins_in tech (Some domain) parts = map (pin_shape tech domain) parts

abbrev pub block_pins : Tech → List DomainAt → PlacedBlock → List Drawn
block_pins tech domains block = pins_in tech (domain_of domains block.domain) block.pins

-- Those of blocks, block after block.
abbrev pub pin_shapes : Tech → List DomainAt → List PlacedBlock → List Drawn
pin_shapes tech domains blocks = flat_map (block_pins tech domains) blocks

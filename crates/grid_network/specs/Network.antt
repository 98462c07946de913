-- The network of a drawn grid, and what refuses it.
use Rattle.std.specs.Prelude.{◌≡◌, ◌⊎◌, ◌<◌, pos, List, Some, None, length, map}
use Rattle.lef_tech.specs.declared.tech.Tech.{Tech}
use Rattle.grid_net.specs.declared.part.Resistor.{Resistor}
use Rattle.grid_net.specs.declared.part.Pad.{Pad}
use Rattle.grid_net.specs.declared.part.Load.{Load}
use Rattle.grid_net.specs.declared.error.NetError.{NetError}
use Rattle.grid_net.specs.declared.error.NetError.TheVariants.{Range}
use Rattle.grid_net.specs.declared.error.Quantity.TheVariants.{Nodes}
use Rattle.grid_net.specs.Limits.{most_nodes}
use Rattle.grid_net.specs.Building.{network_of, first_net_refusal}
use Rattle.grid_network.specs.declared.error.ExtractError.{ExtractError}
use Rattle.grid_network.specs.declared.error.ExtractError.TheVariants.{UnknownName, NoSupply, PadOff, LoadOff, Net, Want}
use Rattle.grid_network.specs.declared.extracted.Extracted.{Extracted}
use Rattle.grid_network.specs.declared.key.Key.{Key}
use Rattle.grid_network.specs.declared.pad.PadOn.{PadOn}
use Rattle.grid_network.specs.declared.pad.Tap.{Tap}
use Rattle.grid_pieces.specs.declared.grid.Grid.{Grid}
use Rattle.grid_network.specs.declared.segment.Segment.{Segment}
use Rattle.grid_network.specs.Listing.{ListsAll, EachOnce}
use Rattle.grid_network.specs.Drawing.{Drawing, key_at}
use Rattle.grid_network.specs.Nodes.{IsNode, AreNodes, name_of, number_of}
use Rattle.grid_network.specs.Segments.{AreSegments, resistor_of}
use Rattle.grid_network.specs.Layers.{AreNotes}

-- One resistor for each segment.
abbrev pub resistors_of : List Key → List Segment → List Resistor
resistors_of keys segments = map (resistor_of keys) segments

-- The pads on their nodes.
abbrev pub pads_of : Drawing → List Key → List Pad
pads_of d keys = map (λ p. record { node = number_of keys (key_at d.grid.pieces p.piece p.along); volts = p.volts })
    d.pads

-- The loads on their nodes. A network has the sums of the low ends and of the high ends for each node.
abbrev pub loads_of : Drawing → List Key → List Load
loads_of d keys = map (λ t. record {
  node = number_of keys (key_at d.grid.pieces t.piece t.along);
  low = t.low;
  high = t.high;
}) d.taps

-- The network of a drawing: all its nodes, each with its name; one resistor for each segment, and what drawn metal it
-- is; the pads and the loads on their nodes; and the layer lines. Nothing refuses these lists.
pub record IsNetworkOf (d : Drawing) (tech : Tech) (e : Extracted) : Type 0 where
  pub segments : List Segment
  pub nodes : AreNodes d (length tech.routing) e.keys
  pub names : e.names ≡ map (name_of (length tech.routing)) e.keys
  pub all_segments : AreSegments d tech e.keys segments
  pub branches : e.branches ≡ map (λ s. s.branch) segments
  pub net : e.net ≡ network_of (length e.keys) (resistors_of e.keys segments) (pads_of d e.keys)
      (loads_of d e.keys)
  pub not_refused : first_net_refusal (length e.keys) (resistors_of e.keys segments) (pads_of d e.keys)
      (loads_of d e.keys) ≡ None
  pub notes : AreNotes d tech e.notes

-- The network of a grid with some pads and load taps.
pub record IsNetworkOn (grid : Grid) (tech : Tech) (e : Extracted) : Type 0 where
  pub pads : List PadOn
  pub taps : List Tap
  pub network : IsNetworkOf (record { grid = grid; pads = pads; taps = taps }) tech e

-- There are more nodes than a network may have; the error has their exact count.
pub record HasTooManyNodes (d : Drawing) (error : NetError) : Type 0 where
  pub keys : List Key
  pub all : ListsAll (IsNode d) keys
  pub once : EachOnce keys
  pub many : most_nodes < length keys
  pub is : error ≡ Range Nodes 0 (pos (length keys))

-- The lists of the drawing make no network, for this reason.
pub record MakesNoNet (d : Drawing) (tech : Tech) (error : NetError) : Type 0 where
  pub keys : List Key
  pub segments : List Segment
  pub nodes : AreNodes d (length tech.routing) keys
  pub all_segments : AreSegments d tech keys segments
  pub refused : first_net_refusal (length keys) (resistors_of keys segments) (pads_of d keys) (loads_of d keys)
      ≡ Some error

-- When each error comes; that of memory is free.
abbrev pub IsRefused : Drawing → Tech → ExtractError → Type 0
IsRefused d tech (Net error) = HasTooManyNodes d error ⊎ MakesNoNet d tech error
IsRefused d tech Want = Unit {0}
IsRefused d tech (UnknownName _) = ⊥
IsRefused d tech (NoSupply _) = ⊥
IsRefused d tech (PadOff _) = ⊥
IsRefused d tech (LoadOff _) = ⊥

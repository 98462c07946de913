-- The wires of a grid, as any reader of wiring finds them in its written DEF (LEF/DEF 5.8 Language Reference, VIAS and
-- SPECIALNETS).
use Rattle.std.specs.Prelude.{ℕ, false, pos, List, map, flat_map, slice_index_or}
use Rattle.std.specs.List.{enumerate_from}
use Rattle.geom_rect.specs.declared.direction.Axis.{Axis}
use Rattle.geom_rect.specs.declared.direction.Axis.TheVariants.{Y}
use Rattle.geom_rect.specs.declared.drawn.Shape.{Shape}
use Rattle.geom_rect.specs.declared.drawn.Shape.TheVariants.{Stripe, FollowPin}
use Rattle.lef_tech.specs.declared.tech.Tech.{Tech}
use Rattle.via_arrays.specs.declared.parts.CutArray.{CutArray}
use Rattle.grid_pieces.specs.declared.grid.Grid.{Grid}
use Rattle.grid_pieces.specs.declared.piece.Piece.{Piece}
use Rattle.def_writer.specs.Via.{arrays_of, vias_of, layer_name}
use Rattle.def_writer.specs.Wiring.{point_on, pieces_of, stacks_of}
use Rattle.def_wiring.specs.declared.record.Segment.{Segment}
use Rattle.def_wiring.specs.declared.record.ViaDef.{ViaDef}
use Rattle.def_wiring.specs.declared.record.WiredNet.{WiredNet}
use Rattle.def_wiring.specs.declared.record.Wires.{Wires}
use Rattle.def_wiring.specs.Written.{via_def, via_place}
use Rattle.written_wiring.specs.Wiring.{via_text, places_at}

-- The generated via of an array: its name, its rule and the layers of it, the cut, the space between cuts, the enclosures
-- of the lower and of the upper layer, the rows and columns of cuts.
abbrev pub via_wire : Tech → CutArray → ViaDef
via_wire tech array = via_def (via_text tech array)

-- A FOLLOWPIN along y is read as a Stripe.
abbrev pub shape_read : Axis → Shape → Shape
shape_read Y FollowPin = Stripe
shape_read axis shape = shape

-- The segment of a piece: its layer, its width and the two ends of its centre line, from the lesser one. Nothing lengthens
-- it.
abbrev pub segment_of : Tech → Piece → Segment
segment_of tech piece = record {
  layer = layer_name tech piece.layer;
  width = piece.width;
  shape = shape_read piece.axis piece.shape;
  x1 = (point_on piece.axis piece.from piece.centre).0;
  y1 = (point_on piece.axis piece.from piece.centre).1;
  e1 = pos 0;
  x2 = (point_on piece.axis piece.to piece.centre).0;
  y2 = (point_on piece.axis piece.to piece.centre).1;
  e2 = pos 0;
}

-- The net of this number and name: whether it is a power net, the segments of its pieces, and the vias of the arrays of its
-- stacks.
abbrev pub wired_net : Tech → Grid → ℕ × List ℕ → WiredNet
wired_net tech grid (net, name) = record {
  name = name;
  power = slice_index_or grid.power net false;
  segments = map (segment_of tech) (pieces_of grid.pieces net);
  vias = map via_place (flat_map (places_at tech name) (stacks_of grid.stacks net));
}

-- The wires of a grid: its vias, one for each rule with its columns and rows that an array has, in the order of these, and
-- its nets in their order.
abbrev pub wires_of : Tech → Grid → Wires
wires_of tech grid = record {
  vias = map (via_wire tech) (vias_of (arrays_of grid.stacks));
  nets = map (wired_net tech grid) (enumerate_from 0 grid.nets);
}

-- The wiring of a grid in names and numbers, as its written DEF says it (LEF/DEF 5.8 Language Reference, VIAS and
-- SPECIALNETS).
use Rattle.std.specs.Prelude.{ℕ, ℤ, pos, List, [], map, flat_map, slice_index_or}
use Rattle.std.specs.List.{enumerate_from}
use Rattle.lef_tech.specs.declared.tech.Tech.{Tech}
use Rattle.via_arrays.specs.declared.parts.CutArray.{CutArray}
use Rattle.grid_pieces.specs.declared.grid.Grid.{Grid}
use Rattle.grid_pieces.specs.declared.piece.Piece.{Piece}
use Rattle.grid_pieces.specs.declared.piece.StackAt.{StackAt}
use Rattle.def_writer.specs.Via.{arrays_of, vias_of, via_of, via_name, layer_name, rule_name, lower_name, cut_name, upper_name, gap}
use Rattle.def_writer.specs.Wiring.{point_on, shape_word}
use Rattle.wiring_file.specs.declared.record.ViaText.{ViaText}
use Rattle.wiring_file.specs.declared.record.WireText.{WireText}
use Rattle.wiring_file.specs.declared.record.PlaceText.{PlaceText}
use Rattle.wiring_file.specs.declared.record.Wiring.{Wiring}

-- A via, by an array that has it: its name, its rule and the layers of it, the cut, the space between cuts, the
-- enclosures of the lower and of the upper layer, the rows and columns of cuts.
abbrev pub via_text : Tech → CutArray → ViaText
via_text tech array = record {
  name = via_name (via_of array);
  rule = rule_name tech array.rule;
  cut_x = array.cut_x;
  cut_y = array.cut_y;
  lower = lower_name tech array.rule;
  cut = cut_name tech array.rule;
  upper = upper_name tech array.rule;
  gap_x = gap array.cut_x array.pitch_x;
  gap_y = gap array.cut_y array.pitch_y;
  lower_x = array.lower_x;
  lower_y = array.lower_y;
  upper_x = array.upper_x;
  upper_y = array.upper_y;
  rows = pos array.rows;
  columns = pos array.columns;
}

-- The name of the grid's net of this number.
abbrev pub net_name : Grid → ℕ → List ℕ
net_name grid net = slice_index_or grid.nets net []

-- A piece of the net of this name: its layer, its width, its shape and the two ends of its centre line, from the lesser
-- one.
abbrev pub wire_text : Tech → List ℕ → Piece → WireText
wire_text tech net piece = record {
  net = net;
  layer = layer_name tech piece.layer;
  width = piece.width;
  shape = shape_word piece.shape;
  x1 = (point_on piece.axis piece.from piece.centre).0;
  y1 = (point_on piece.axis piece.from piece.centre).1;
  x2 = (point_on piece.axis piece.to piece.centre).0;
  y2 = (point_on piece.axis piece.to piece.centre).1;
}

-- An array of a stack of the net of this name, which stands at this point with its lower layer here: that layer, the
-- point and the via.
abbrev pub place_text : Tech → List ℕ → ℤ × ℤ → ℕ × CutArray → PlaceText
place_text tech net point (layer, array) = record {
  net = net;
  layer = layer_name tech layer;
  x = point.0;
  y = point.1;
  via = via_name (via_of array);
}

-- The arrays of a stack of the net of this name, bottom up.
abbrev pub places_at : Tech → List ℕ → StackAt → List PlaceText
places_at tech net at = map (place_text tech net (at.x, at.y)) (enumerate_from at.stack.from at.stack.arrays)

-- A piece and a stack of the grid.
abbrev pub wire_of : Tech → Grid → Piece → WireText
wire_of tech grid piece = wire_text tech (net_name grid piece.net) piece

abbrev pub places_of : Tech → Grid → StackAt → List PlaceText
places_of tech grid at = places_at tech (net_name grid at.net) at

-- The wiring of a grid: its vias, one for each rule with its columns and rows that an array has, in the order of these;
-- its pieces; and the arrays of its stacks, each list in the order of the grid.
abbrev pub wiring_of : Tech → Grid → Wiring
wiring_of tech grid = record {
  vias = map (via_text tech) (vias_of (arrays_of grid.stacks));
  wires = map (wire_of tech grid) grid.pieces;
  places = flat_map (places_of tech grid) grid.stacks;
}

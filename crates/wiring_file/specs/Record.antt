-- What the units of a written wiring say.
use Rattle.std.specs.Prelude.{◌≡◌, ◌&&◌, not, ℕ, ◌==◌, Bool, List, filter}
use Rattle.entry_list.specs.InTurn.{InTurn}
use Rattle.wiring_file.specs.declared.number.Quantity.TheVariants.{Coordinate, NotNegative, Positive}
use Rattle.wiring_file.specs.declared.record.ViaText.{ViaText}
use Rattle.wiring_file.specs.declared.record.WireText.{WireText}
use Rattle.wiring_file.specs.declared.record.PlaceText.{PlaceText}
use Rattle.wiring_file.specs.declared.record.Wiring.{Wiring}
use Rattle.wiring_file.specs.declared.section.Section.{Section}
use Rattle.wiring_file.specs.declared.section.Section.TheVariants.{Vias, Line}
use Rattle.wiring_file.specs.Section.{section_number}
use Rattle.wiring_file.specs.Fault.{Says}
use Rattle.wiring_file.specs.Standing.{Standing, placed}
use Rattle.wiring_file.specs.Unit.{text_at, is_entry, is_place}
use Rattle.reading.specs.Word.{Token}

-- The unit stands in this section.
abbrev pub stands_in : Section → Standing × List Token → Bool
stands_in section at = section_number at.0.section == section_number section

-- A via, a line that goes to another point, and a line that has a via.
abbrev pub is_via : Standing × List Token → Bool
is_via at = stands_in Vias at && is_entry at.1

abbrev pub is_wire : Standing × List Token → Bool
is_wire at = stands_in Line at && not (is_place at.1)

abbrev pub is_stacked : Standing × List Token → Bool
is_stacked at = stands_in Line at && is_place at.1

-- `- name + VIARULE rule + CUTSIZE x y + LAYERS lower cut upper + CUTSPACING x y + ENCLOSURE x y x y + ROWCOL rows columns ;`.
pub record SaysVia (at : Standing × List Token) (via : ViaText) : Type 0 where
  pub name : via.name ≡ text_at 1 at.1
  pub rule : via.rule ≡ text_at 4 at.1
  pub cut_x : Says Positive 7 at.1 via.cut_x
  pub cut_y : Says Positive 8 at.1 via.cut_y
  pub lower : via.lower ≡ text_at 11 at.1
  pub cut : via.cut ≡ text_at 12 at.1
  pub upper : via.upper ≡ text_at 13 at.1
  pub gap_x : Says NotNegative 16 at.1 via.gap_x
  pub gap_y : Says NotNegative 17 at.1 via.gap_y
  pub lower_x : Says NotNegative 20 at.1 via.lower_x
  pub lower_y : Says NotNegative 21 at.1 via.lower_y
  pub upper_x : Says NotNegative 22 at.1 via.upper_x
  pub upper_y : Says NotNegative 23 at.1 via.upper_y
  pub rows : Says Positive 26 at.1 via.rows
  pub columns : Says Positive 27 at.1 via.columns

-- `layer width + SHAPE shape ( x y ) ( x y )`, of the net that is open.
pub record SaysWire (at : Standing × List Token) (wire : WireText) : Type 0 where
  pub net : wire.net ≡ at.0.net
  pub layer : wire.layer ≡ text_at 0 at.1
  pub width : Says NotNegative 1 at.1 wire.width
  pub shape : wire.shape ≡ text_at 4 at.1
  pub x1 : Says Coordinate 6 at.1 wire.x1
  pub y1 : Says Coordinate 7 at.1 wire.y1
  pub x2 : Says Coordinate 10 at.1 wire.x2
  pub y2 : Says Coordinate 11 at.1 wire.y2

-- `layer 0 + SHAPE STRIPE ( x y ) via`, of the net that is open.
pub record SaysPlace (at : Standing × List Token) (place : PlaceText) : Type 0 where
  pub net : place.net ≡ at.0.net
  pub layer : place.layer ≡ text_at 0 at.1
  pub x : Says Coordinate 6 at.1 place.x
  pub y : Says Coordinate 7 at.1 place.y
  pub via : place.via ≡ text_at 9 at.1

-- The vias, the wires and the places that the units say, each list in the order of the text.
pub record IsWiring (units : List (List Token)) (wiring : Wiring) : Type 0 where
  pub vias : InTurn SaysVia (filter is_via (placed units)) wiring.vias
  pub wires : InTurn SaysWire (filter is_wire (placed units)) wiring.wires
  pub places : InTurn SaysPlace (filter is_stacked (placed units)) wiring.places

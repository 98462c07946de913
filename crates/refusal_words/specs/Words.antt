-- The words by which a refusal of a drawing, of wiring or of an extraction is told (this project): which refusal it is, and after a
-- blank each thing that it is about. A thing with a name is told by its name, a ring or a connect by its place from 0
-- in the script, a length and a place in x or y by its whole number.
use Rattle.std.specs.Prelude.{ℕ, ℤ, Bool, true, false, List, ◌++◌, codes, decimal}
use Rattle.std.specs.Fmt.{signed_decimal}
use Rattle.def_design.specs.declared.record.Design.{Design}
use Rattle.geom_rect.specs.declared.rect.Rect.{Rect}
use Rattle.grid_network.specs.declared.error.ExtractError.{ExtractError}
use Rattle.grid_network.specs.declared.error.ExtractError.TheVariants as extracted
use Rattle.grid_pieces.specs.declared.error.Counted.{Counted}
use Rattle.grid_pieces.specs.declared.error.Counted.TheVariants.{Lines, Pieces, Stacks}
use Rattle.grid_pieces.specs.declared.error.DrawError.{DrawError}
use Rattle.grid_pieces.specs.declared.error.DrawError.TheVariants as drawn
use Rattle.grid_pieces.specs.declared.grid.Grid.{Grid}
use Rattle.grid_pieces.specs.declared.touch.Touching.{Touching}
use Rattle.lef_tech.specs.declared.tech.Tech.{Tech}
use Rattle.pdn_script.specs.declared.record.Script.{Script}
use Rattle.via_arrays.specs.declared.error.StackError.{StackError}
use Rattle.via_arrays.specs.declared.error.StackError.TheVariants as stacked
use Rattle.def_wiring.specs.declared.record.Wires.{Wires}
use Rattle.wire_limits.specs.declared.error.WireCount.{WireCount}
use Rattle.wire_limits.specs.declared.error.WireCount.TheVariants.{Segments, Vias}
use Rattle.wired_grid.specs.declared.error.WiredError.{WiredError}
use Rattle.wired_grid.specs.declared.error.WiredError.TheVariants as wired
use Rattle.refusal_words.specs.Name.{layer_name, rule_name, domain_name, row_name, component_name, net_name, via_name, wired_net_name}

-- What stands too many times.
abbrev pub counted_word : Counted → List ℕ
counted_word Lines = codes "Lines"
counted_word Pieces = codes "Pieces"
counted_word Stacks = codes "Stacks"

-- Why no stack can stand.
abbrev pub stack_words : Tech → StackError → List ℕ
stack_words tech (stacked.NoRule layer) = codes "NoRule " ++ layer_name tech layer
stack_words tech (stacked.OffGrid rule) = codes "OffGrid " ++ rule_name tech rule
stack_words tech (stacked.NoCutFits layer) = codes "NoCutFits " ++ layer_name tech layer
stack_words tech (stacked.NoResistance layer) = codes "NoResistance " ++ layer_name tech layer
stack_words tech stacked.Want = codes "Want"

-- A point, and a rectangle by its lower left corner and its upper right one.
abbrev pub point_words : ℤ → ℤ → List ℕ
point_words x y = signed_decimal x ++ codes " " ++ signed_decimal y

abbrev pub rect_words : Rect → List ℕ
rect_words rect = point_words rect.x1 rect.y1 ++ codes " " ++ point_words rect.x2 rect.y2

abbrev pub truth_word : Bool → List ℕ
truth_word true = codes "true"
truth_word false = codes "false"

-- Metal that touches: the layer, the two rectangles, and whether they are of one net.
abbrev pub touch_words : Tech → Touching → List ℕ
touch_words tech touching =
    layer_name tech touching.layer ++ codes " " ++ rect_words touching.first ++ codes " " ++ rect_words touching.second
    ++ codes " " ++ truth_word touching.same

-- Why no grid is drawn. Want of memory is answered as that and not by these words.
abbrev pub draw_words : Tech → Design → Script → DrawError → List ℕ
draw_words tech design script (drawn.UnknownName name) = codes "UnknownName " ++ name
draw_words tech design script (drawn.RingLayers ring) = codes "RingLayers " ++ decimal ring
draw_words tech design script (drawn.RailLayer layer) = codes "RailLayer " ++ layer_name tech layer
draw_words tech design script (drawn.ParallelConnect connect) = codes "ParallelConnect " ++ decimal connect
draw_words tech design script drawn.NoRows = codes "NoRows"
draw_words tech design script (drawn.OffGrid length) = codes "OffGrid " ++ decimal length
draw_words tech design script (drawn.OddWidth width) = codes "OddWidth " ++ decimal width
draw_words tech design script (drawn.RegionShape domain) = codes "RegionShape " ++ domain_name script domain
draw_words tech design script (drawn.RegionsMeet first second) =
    codes "RegionsMeet " ++ domain_name script first ++ codes " " ++ domain_name script second
draw_words tech design script (drawn.RowAcross row) = codes "RowAcross " ++ row_name design row
draw_words tech design script (drawn.EmptyDomain domain) = codes "EmptyDomain " ++ domain_name script domain
draw_words tech design script (drawn.MacroGrid component) = codes "MacroGrid " ++ component_name design component
draw_words tech design script (drawn.TooMany what) = codes "TooMany " ++ counted_word what
draw_words tech design script (drawn.NoSheet layer) = codes "NoSheet " ++ layer_name tech layer
draw_words tech design script (drawn.Stack error x y) =
    codes "Stack " ++ stack_words tech error ++ codes " " ++ point_words x y
draw_words tech design script (drawn.Touch touching) = codes "Touch " ++ touch_words tech touching
draw_words tech design script drawn.Want = codes "Want"

-- Why no network is extracted. Want of memory and lists that make no network are answered as those of any network, and
-- not by these words.
abbrev pub extract_words : Grid → Design → ExtractError → List ℕ
extract_words grid design (extracted.UnknownName line) = codes "UnknownName " ++ decimal line
extract_words grid design (extracted.NoSupply net) = codes "NoSupply " ++ net_name grid net
extract_words grid design (extracted.PadOff line) = codes "PadOff " ++ decimal line
extract_words grid design (extracted.LoadOff component) = codes "LoadOff " ++ component_name design component
extract_words grid design (extracted.Net error) = codes "Net"
extract_words grid design extracted.Want = codes "Want"

-- What stands too many times in wiring.
abbrev pub wire_count_word : WireCount → List ℕ
wire_count_word Segments = codes "Segments"
wire_count_word Vias = codes "Vias"

-- Why wiring gives no grid. Want of memory is answered as that and not by these words.
abbrev pub wired_words : Tech → Wires → WiredError → List ℕ
wired_words tech wires (wired.UnknownName name) = codes "UnknownName " ++ name
wired_words tech wires (wired.NetCount powers grounds) =
    codes "NetCount " ++ decimal powers ++ codes " " ++ decimal grounds
wired_words tech wires (wired.ViaLayers via) = codes "ViaLayers " ++ via_name wires via
wired_words tech wires (wired.ViaSize via) = codes "ViaSize " ++ via_name wires via
wired_words tech wires (wired.OddWidth net width) =
    codes "OddWidth " ++ wired_net_name wires net ++ codes " " ++ signed_decimal width
wired_words tech wires (wired.NoSheet layer) = codes "NoSheet " ++ layer_name tech layer
wired_words tech wires (wired.NoResistance layer) = codes "NoResistance " ++ layer_name tech layer
wired_words tech wires (wired.TooMany what) = codes "TooMany " ++ wire_count_word what
wired_words tech wires (wired.ViaOff via x y) = codes "ViaOff " ++ via_name wires via ++ codes " " ++ point_words x y
wired_words tech wires (wired.Touch touching) = codes "Touch " ++ touch_words tech touching
wired_words tech wires wired.Want = codes "Want"

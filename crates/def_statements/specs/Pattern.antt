-- The units of a design (LEF/DEF 5.8 Language Reference, "DEF Syntax").
use Rattle.std.specs.Prelude.{Bool, true, false}
use Rattle.def_statements.specs.declared.section.Section.{Section}
use Rattle.def_statements.specs.declared.section.Section.TheVariants as places
use Rattle.def_statements.specs.declared.sort.Sort.{Sort}
use Rattle.def_statements.specs.declared.sort.Sort.TheVariants.{Semicolon, Open, Close, Plus, Minus, N, FS, S, FN, W, E, FW, FE, Placed, Fixed, End, Design, Units, Distance, Microns, DieArea, Row, Do, By, Step, Components, Blockages, Regions, SpecialNets, Layer, Placement, Spacing, PushDown, Component, Width, ExceptPgNet, Fills, Rect, Polygon, Quoted, TextEnd}
use Rattle.def_statements.specs.Sort.{the}
use Rattle.reading.specs.Pattern.{Pattern, One, Then, Or}

-- ## words

-- A name is any bare word but `;`, also a keyword.
abbrev pub is_name : Sort → Bool
is_name Semicolon = false
is_name Quoted = false
is_name TextEnd = false
is_name _ = true

-- In the place of a number stands any word but `;`, `(`, `)` and the end of the text; whether it is a number is a
-- matter of the faults.
abbrev pub is_number : Sort → Bool
is_number Semicolon = false
is_number Open = false
is_number Close = false
is_number TextEnd = false
is_number _ = true

-- An orientation: north, south, west and east, and the four flipped ones.
abbrev pub is_turn : Sort → Bool
is_turn N = true
is_turn S = true
is_turn W = true
is_turn E = true
is_turn FN = true
is_turn FS = true
is_turn FW = true
is_turn FE = true
is_turn _ = false

-- Any word of the text.
abbrev pub is_word : Sort → Bool
is_word TextEnd = false
is_word _ = true

abbrev pub name : Pattern Sort
name = One is_name

abbrev pub number : Pattern Sort
number = One is_number

abbrev pub key : Sort → Pattern Sort
key sort = One (the sort)

-- `( x y )`.
abbrev pub point : Pattern Sort
point = Then (key Open) (Then number (Then number (key Close)))

-- ## the design

-- `DESIGN name ;`.
abbrev pub design : Pattern Sort
design = Then (key Design) (Then name (key Semicolon))

-- `UNITS DISTANCE MICRONS n ;`.
abbrev pub units : Pattern Sort
units = Then (key Units) (Then (key Distance) (Then (key Microns) (Then number (key Semicolon))))

-- After two points `;`, or a third point, which is refused for itself.
abbrev pub is_die_end : Sort → Bool
is_die_end Semicolon = true
is_die_end Open = true
is_die_end _ = false

-- `DIEAREA ( x y ) ( x y ) ;`.
abbrev pub die : Pattern Sort
die = Then (key DieArea) (Then point (Then point (One is_die_end)))

-- A word that ends a row, or begins what is passed over in it to its `;`.
abbrev pub is_after_row : Sort → Bool
is_after_row Do = false
is_after_row TextEnd = false
is_after_row _ = true

abbrev pub is_after_counts : Sort → Bool
is_after_counts Step = false
is_after_counts TextEnd = false
is_after_counts _ = true

-- `DO nx BY ny`, perhaps with `STEP sx sy`.
abbrev pub repeat : Pattern Sort
repeat = Then (key Do) (Then number (Then (key By) (Then number
    (Or (Then (key Step) (Then number number)) (One is_after_counts)))))

-- `ROW name site x y orient`, perhaps with what repeats the site.
abbrev pub row : Pattern Sort
row = Then (key Row) (Then name (Then name (Then number (Then number (Then (One is_turn)
    (Or repeat (One is_after_row)))))))

-- The sections that have a count after their word.
abbrev pub is_counted : Sort → Bool
is_counted Components = true
is_counted Blockages = true
is_counted Regions = true
is_counted SpecialNets = true
is_counted _ = false

-- `COMPONENTS n ;` and its like.
abbrev pub section_head : Pattern Sort
section_head = Then (One is_counted) (Then number (key Semicolon))

-- `END` and this word.
abbrev pub end_of : Sort → Pattern Sort
end_of word = Then (key End) (key word)

-- A word that begins what is passed over.
abbrev pub is_other : Sort → Bool
is_other Design = false
is_other Units = false
is_other DieArea = false
is_other Row = false
is_other Components = false
is_other Blockages = false
is_other Regions = false
is_other SpecialNets = false
is_other End = false
is_other Semicolon = false
is_other TextEnd = false
is_other _ = true

abbrev pub top : Pattern Sort
top = Or design (Or units (Or die (Or row (Or section_head (Or (end_of Design) (One is_other))))))

-- ## components

-- `- name macro`.
abbrev pub component_head : Pattern Sort
component_head = Then (key Minus) (Then name name)

abbrev pub components : Pattern Sort
components = Or component_head (end_of Components)

-- `PLACED`, and `FIXED` or `COVER`.
abbrev pub is_placed : Sort → Bool
is_placed Placed = true
is_placed Fixed = true
is_placed _ = false

-- `PLACED ( x y ) orient` and its like.
abbrev pub placed : Pattern Sort
placed = Then (One is_placed) (Then point (One is_turn))

-- A word that begins another part.
abbrev pub is_other_part : Sort → Bool
is_other_part Placed = false
is_other_part Fixed = false
is_other_part TextEnd = false
is_other_part _ = true

abbrev pub entry_part : Pattern Sort
entry_part = Or placed (One is_other_part)

-- ## blockages

abbrev pub blockages : Pattern Sort
blockages = Or (key Minus) (end_of Blockages)

-- `LAYER l`, or `PLACEMENT`.
abbrev pub blockage_kind : Pattern Sort
blockage_kind = Or (Then (key Layer) name) (key Placement)

-- `RECT ( x y ) ( x y )`.
abbrev pub rect : Pattern Sort
rect = Then (key Rect) (Then point point)

-- A `POLYGON` is refused for itself.
abbrev pub shape : Pattern Sort
shape = Or rect (key Polygon)

-- Parts stand before the first RECT.
abbrev pub parts : Pattern Sort
parts = Or (key Plus) shape

-- `SPACING s`, `DESIGNRULEWIDTH w`, `MASK m`.
abbrev pub takes_number : Sort → Bool
takes_number Spacing = true
takes_number Width = true
takes_number _ = false

-- `PUSHDOWN`, `EXCEPTPGNET`, `FILLS`, `SLOTS`.
abbrev pub stands_alone : Sort → Bool
stands_alone PushDown = true
stands_alone ExceptPgNet = true
stands_alone Fills = true
stands_alone _ = false

abbrev pub part : Pattern Sort
part = Or (Then (One takes_number) number) (Or (Then (key Component) name) (One stands_alone))

abbrev pub rects : Pattern Sort
rects = Or shape (key Semicolon)

-- ## regions

-- `- name ( x y ) ( x y )`.
abbrev pub region_head : Pattern Sort
region_head = Then (key Minus) (Then name (Then point point))

abbrev pub regions : Pattern Sort
regions = Or region_head (end_of Regions)

-- A word that ends a region, or begins what is passed over in it to its `;`.
abbrev pub is_after_rect : Sort → Bool
is_after_rect Open = false
is_after_rect TextEnd = false
is_after_rect _ = true

-- One more rectangle `( x y ) ( x y )`.
abbrev pub region : Pattern Sort
region = Or (Then point point) (One is_after_rect)

-- ## what may stand in each section

abbrev pub pattern : Section → Pattern Sort
pattern places.Top = top
pattern places.Components = components
pattern places.Entry = One is_word
pattern places.EntryPart = entry_part
pattern places.Blockages = blockages
pattern places.BlockageKind = blockage_kind
pattern places.Parts = parts
pattern places.Part = part
pattern places.Rects = rects
pattern places.Placement = One is_word
pattern places.Regions = regions
pattern places.Region = region
pattern places.Wiring = One is_word
pattern places.WiringPart = One is_word
pattern places.WiringEnd = One is_word
pattern places.Passed = One is_word
pattern places.Ended = key TextEnd

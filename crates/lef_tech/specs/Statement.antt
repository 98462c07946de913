-- What the statements of a technology say, one by one.
use Rattle.std.specs.Prelude.{◌≡◌, ℕ, ℤ, pos, ◌-ℤ◌, unsigned_abs, List, Option, Some, None, Ok}
use Rattle.geom_rect.specs.declared.direction.Axis.{Axis}
use Rattle.geom_rect.specs.declared.direction.Axis.TheVariants.{X, Y}
use Rattle.lef_tech.specs.declared.layer.LayerRef.{LayerRef}
use Rattle.lef_tech.specs.declared.number.Quantity.{Quantity}
use Rattle.lef_tech.specs.declared.number.Quantity.TheVariants as quantities
use Rattle.lef_tech.specs.declared.section.Section.{Section}
use Rattle.lef_tech.specs.declared.section.Section.TheVariants as sections
use Rattle.lef_tech.specs.declared.sort.Sort.{Sort}
use Rattle.lef_tech.specs.declared.sort.Sort.TheVariants as sorts
use Rattle.lef_tech.specs.declared.statement.Statement.{Statement}
use Rattle.lef_tech.specs.declared.statement.Statement.TheVariants.{Layer, Rule, Part, Wires, Cuts, Along, Spacing, Resistance, Density, Table, Point, Value, Enclosure, Widths, Extent, Pitch}
use Rattle.lef_tech.specs.declared.shape.Shape.{Shape}
use Rattle.lef_tech.specs.declared.shape.Shape.TheVariants.{One, Two, Three, Four, Five, Six}
use Rattle.lef_tech.specs.Number.{place_of}
use Rattle.lef_tech.specs.Shape.{text_at}
use Rattle.number_place.specs.Place.{IsNumberAt}
use Rattle.reading.specs.Word.{Token}

-- A unit as a statement: one without numbers, or none; one with the name after its first word; one of a number of this
-- kind, which has n words of its unit before it; one of such a number and the `;` after it; one of two numbers; a
-- rectangle of two corners.
pub data Saying : Type 0 where
  Plain : Option Statement → Saying
  Named : (List ℕ → Statement) → Saying
  Of : Quantity → ℕ → (ℕ → Statement) → Saying
  Alone : Quantity → ℕ → (ℕ → Statement) → Saying
  OfTwo : Quantity → ℕ → ℕ → (ℕ → ℕ → Statement) → Saying
  OfCorners : Saying

-- `LAYER name`, `VIARULE name`.
abbrev pub say_head : Sort → Saying
say_head sorts.Layer = Named Layer
say_head sorts.ViaRule = Named Rule
say_head _ = Plain None

abbrev pub say_top : Shape → Saying
say_top (Two word name) = say_head word
say_top _ = Plain None

-- `TYPE ROUTING ;`, `TYPE CUT ;`.
abbrev pub say_type : Sort → Option Statement
say_type sorts.Routing = Some Wires
say_type sorts.Cut = Some Cuts
say_type _ = None

abbrev pub say_start : Shape → Saying
say_start (Three word type stop) = Plain (say_type type)
say_start _ = Plain None

-- Wires of a `HORIZONTAL` layer run along x, others along y.
abbrev pub axis_of : Sort → Axis
axis_of sorts.Horizontal = X
axis_of _ = Y

-- `DIRECTION d ;`, `SPACING s ;`.
abbrev pub say_wire_three : Sort → Sort → Sort → Saying
say_wire_three sorts.Direction second last = Plain (Some (Along (axis_of second)))
say_wire_three sorts.Spacing second sorts.Semicolon = Alone quantities.Length 1 Spacing
say_wire_three _ second last = Plain None

-- `RESISTANCE RPERSQ v ;`, `DCCURRENTDENSITY AVERAGE WIDTH w`, `DCCURRENTDENSITY AVERAGE v ;`.
abbrev pub say_wire_four : Sort → Sort → Sort → Saying
say_wire_four sorts.Resistance third sorts.Semicolon = Alone quantities.Resistance 2 Resistance
say_wire_four sorts.Current sorts.Width last = Of quantities.Length 3 Table
say_wire_four sorts.Current third last = Of quantities.WireDensity 2 Density
say_wire_four _ third last = Plain None

-- A routing layer.
abbrev pub say_wire : Shape → Saying
say_wire (Three word second last) = say_wire_three word second last
say_wire (Four word second third last) = say_wire_four word third last
say_wire _ = Plain None

-- `RESISTANCE v ;`.
abbrev pub say_cut_three : Sort → Sort → Saying
say_cut_three sorts.Resistance sorts.Semicolon = Alone quantities.Resistance 1 Resistance
say_cut_three _ last = Plain None

-- `DCCURRENTDENSITY AVERAGE CUTAREA a`, `DCCURRENTDENSITY AVERAGE v ;`.
abbrev pub say_cut_four : Sort → Sort → Saying
say_cut_four sorts.Current sorts.CutArea = Of quantities.Area 3 Table
say_cut_four sorts.Current third = Of quantities.CutDensity 2 Density
say_cut_four _ third = Plain None

-- A cut layer.
abbrev pub say_cut : Shape → Saying
say_cut (Three word second last) = say_cut_three word last
say_cut (Four word second third last) = say_cut_four word third
say_cut _ = Plain None

-- One more point of a table, unless `;` ends the points.
abbrev pub say_point : Quantity → Sort → Saying
say_point points sorts.Semicolon = Plain None
say_point points _ = Of points 0 Point

-- A table among its points: one more, or `; TABLEENTRIES v`.
abbrev pub say_table : Quantity → Quantity → Shape → Saying
say_table points values (One word) = say_point points word
say_table points values (Three stop word value) = Of values 2 Value
say_table points values _ = Plain None

-- One more entry of a table, or the `;` after the last one.
abbrev pub say_value : Quantity → Sort → Saying
say_value values sorts.Semicolon = Plain None
say_value values _ = Of values 0 Value

-- A table among its entries.
abbrev pub say_values : Quantity → Shape → Saying
say_values values (One word) = say_value values word
say_values values _ = Plain None

-- A rule before its first layer or after one of another type: `LAYER name ;`.
abbrev pub say_rule : Option LayerRef → Shape → Saying
say_rule reference (Three word name stop) = Plain (Some (Part reference))
say_rule reference _ = Plain None

-- A rule after a routing layer: `LAYER name ;`, `ENCLOSURE o o ;`, `WIDTH a TO b ;`.
abbrev pub say_wire_part : Option LayerRef → Shape → Saying
say_wire_part reference (Three word name stop) = Plain (Some (Part reference))
say_wire_part reference (Four sorts.Enclosure first second stop) = OfTwo quantities.Length 1 2 Enclosure
say_wire_part reference (Five sorts.Width first to second stop) = OfTwo quantities.Length 1 3 Widths
say_wire_part reference _ = Plain None

-- A rule after its cut layer: `LAYER name ;`, `RESISTANCE v ;`, `SPACING x BY y ;`, `RECT x y x y ;`.
abbrev pub say_cut_part : Option LayerRef → Shape → Saying
say_cut_part reference (Three sorts.Layer name stop) = Plain (Some (Part reference))
say_cut_part reference (Three sorts.Resistance value stop) = Of quantities.Resistance 1 Resistance
say_cut_part reference (Five sorts.Spacing first by second stop) = OfTwo quantities.Length 1 3 Pitch
say_cut_part reference (Six sorts.Rect x1 y1 x2 y2 stop) = OfCorners
say_cut_part reference _ = Plain None

-- What a whole unit of a section says, by the sorts of its words. A unit `LAYER name ;` names a layer that is this one.
abbrev pub saying : Section → Option LayerRef → Shape → Saying
saying sections.Top reference shape = say_top shape
saying sections.LayerStart reference shape = say_start shape
saying sections.Undirected reference shape = say_wire shape
saying sections.Directed reference shape = say_wire shape
saying sections.Cut reference shape = say_cut shape
saying sections.WireTable reference shape = say_table quantities.Length quantities.WireDensity shape
saying sections.CutTable reference shape = say_table quantities.Area quantities.CutDensity shape
saying sections.WireValues reference shape = say_values quantities.WireDensity shape
saying sections.CutValues reference shape = say_values quantities.CutDensity shape
saying sections.RuleHead reference shape = say_rule reference shape
saying sections.Rule reference shape = say_rule reference shape
saying sections.WirePart reference shape = say_wire_part reference shape
saying sections.CutPart reference shape = say_cut_part reference shape
saying _ reference shape = Plain None

-- The text is this number.
abbrev pub IsNatural : Quantity → List ℕ → ℕ → Type 0
IsNatural quantity text value = IsNumberAt (place_of quantity) text (Ok (pos value))

-- The text is this coordinate.
abbrev pub IsCorner : List ℕ → ℤ → Type 0
IsCorner text value = IsNumberAt (place_of quantities.Corner) text (Ok value)

-- How far the coordinates that two texts stand for are apart.
abbrev pub ApartBy : List ℕ → List ℕ → ℕ → Type 0
ApartBy a b extent =
    (low : ℤ) × (high : ℤ) × IsCorner a low × IsCorner b high × (extent ≡ unsigned_abs (high -ℤ low))

-- The statement that a unit says with its numbers, or that it says none.
abbrev pub Says : List Token → Saying → Option Statement → Type 0
Says unit (Plain statement) told = told ≡ statement
Says unit (Named make) told = told ≡ Some (make (text_at unit 1))
Says unit (Of quantity at make) told = (value : ℕ) × IsNatural quantity (text_at unit at) value × (told ≡ Some (make value))
Says unit (Alone quantity at make) told =
    (value : ℕ) × IsNatural quantity (text_at unit at) value × (told ≡ Some (make value))
Says unit (OfTwo quantity a b make) told =
    (first : ℕ) × (second : ℕ) × IsNatural quantity (text_at unit a) first × IsNatural quantity (text_at unit b) second
    × (told ≡ Some (make first second))
Says unit OfCorners told =
    (x : ℕ) × (y : ℕ) × ApartBy (text_at unit 1) (text_at unit 3) x × ApartBy (text_at unit 2) (text_at unit 4) y
    × (told ≡ Some (Extent x y))

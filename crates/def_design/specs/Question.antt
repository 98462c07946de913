-- What is asked of each word of a unit (LEF/DEF 5.8 Language Reference, "DEF Syntax").
use Rattle.std.specs.Prelude.{ℕ, ◌-◌, List, [], ◌∷◌, length, slice_get, Option, Some, None}
use Rattle.def_design.specs.declared.number.Quantity.TheVariants.{Any, NotNegative, Positive, Microns}
use Rattle.def_design.specs.declared.question.Question.{Question}
use Rattle.def_design.specs.declared.question.Question.TheVariants.{Nothing, Number, Apart, FirstDesign, FirstUnits, FirstDie, DieEnd, RowTurn, OneRow, NewComponent, NewRegion, NoPolygon, NoWire, AllStands}
use Rattle.def_statements.specs.declared.section.Section.{Section}
use Rattle.def_statements.specs.declared.section.Section.TheVariants as sections
use Rattle.def_statements.specs.declared.sort.Sort.{Sort}
use Rattle.def_statements.specs.declared.sort.Sort.TheVariants as sorts
use Rattle.def_statements.specs.Unit.{sort_at}
use Rattle.reading.specs.Word.{Token}

-- ## the words of each unit, in their order

-- A coordinate, or a number of any sign.
abbrev pub coordinate : Question
coordinate = Number Any

-- `DESIGN`.
abbrev pub design_words : List Question
design_words =
    FirstDesign ∷ []

-- `UNITS DISTANCE MICRONS n`.
abbrev pub units_words : List Question
units_words =
    FirstUnits ∷ Nothing ∷ Nothing ∷ Number Microns ∷ []

-- `DIEAREA ( x y ) ( x y ) ;`, where a third point may begin in the place of `;`.
abbrev pub die_words : List Question
die_words =
    FirstDie ∷ Nothing ∷ coordinate ∷ coordinate ∷ Nothing ∷ Nothing ∷ coordinate ∷ coordinate ∷ Nothing ∷ DieEnd
    ∷ []

-- `ROW name site x y orient DO nx BY ny STEP sx sy`.
abbrev pub row_words : List Question
row_words =
    Nothing ∷ Nothing ∷ Nothing ∷ coordinate ∷ coordinate ∷ RowTurn ∷ Nothing ∷ Number Positive ∷ Nothing ∷ OneRow
    ∷ Nothing ∷ Number NotNegative ∷ Number NotNegative ∷ []

-- `COMPONENTS n` and its like, and `SPACING s`.
abbrev pub counted_words : List Question
counted_words =
    Nothing ∷ Number NotNegative ∷ []

-- `DESIGNRULEWIDTH w`, `MASK m`.
abbrev pub width_words : List Question
width_words =
    Nothing ∷ coordinate ∷ []

-- `- name` in COMPONENTS.
abbrev pub component_words : List Question
component_words =
    Nothing ∷ NewComponent ∷ []

-- `PLACED ( x y`.
abbrev pub placed_words : List Question
placed_words =
    Nothing ∷ Nothing ∷ coordinate ∷ coordinate ∷ []

-- `RECT ( x y ) ( x y`.
abbrev pub rect_words : List Question
rect_words =
    Nothing ∷ Nothing ∷ coordinate ∷ coordinate ∷ Nothing ∷ Nothing ∷ coordinate ∷ coordinate ∷ []

-- `POLYGON` in the place of a RECT.
abbrev pub polygon_words : List Question
polygon_words =
    NoPolygon ∷ []

-- `- name ( x y ) ( x y` in REGIONS.
abbrev pub region_words : List Question
region_words =
    Nothing ∷ NewRegion ∷ Nothing ∷ coordinate ∷ coordinate ∷ Nothing ∷ Nothing ∷ Apart ∷ Apart ∷ []

-- `( x y ) ( x y`.
abbrev pub more_words : List Question
more_words =
    Nothing ∷ coordinate ∷ coordinate ∷ Nothing ∷ Nothing ∷ Apart ∷ Apart ∷ []

-- `ROUTED` and its like in a special net.
abbrev pub wire_words : List Question
wire_words =
    NoWire ∷ []

-- The end of the text.
abbrev pub end_words : List Question
end_words =
    AllStands ∷ []

-- The statements between the sections, and the heads of the sections that are read.
abbrev pub top_asks : Sort → List Question
top_asks sorts.Design = design_words
top_asks sorts.Units = units_words
top_asks sorts.DieArea = die_words
top_asks sorts.Row = row_words
top_asks sorts.Components = counted_words
top_asks sorts.Blockages = counted_words
top_asks sorts.Regions = counted_words
top_asks sorts.SpecialNets = counted_words
top_asks _ = []

-- An entry of COMPONENTS.
abbrev pub entry_asks : Sort → List Question
entry_asks sorts.Minus = component_words
entry_asks _ = []

-- A part of such an entry.
abbrev pub placed_asks : Sort → List Question
placed_asks sorts.Placed = placed_words
placed_asks sorts.Fixed = placed_words
placed_asks _ = []

-- A part of a blockage.
abbrev pub part_asks : Sort → List Question
part_asks sorts.Spacing = counted_words
part_asks sorts.Width = width_words
part_asks _ = []

-- The shapes of a blockage.
abbrev pub shape_asks : Sort → List Question
shape_asks sorts.Rect = rect_words
shape_asks sorts.Polygon = polygon_words
shape_asks _ = []

-- A blockage of the placement.
abbrev pub placement_asks : Sort → List Question
placement_asks sorts.Polygon = polygon_words
placement_asks _ = []

-- An entry of REGIONS.
abbrev pub regions_asks : Sort → List Question
regions_asks sorts.Minus = region_words
regions_asks _ = []

-- Such an entry after a rectangle.
abbrev pub region_asks : Sort → List Question
region_asks sorts.Open = more_words
region_asks _ = []

-- A part of a special net.
abbrev pub wiring_asks : Sort → List Question
wiring_asks sorts.Routed = wire_words
wiring_asks sorts.Fixed = wire_words
wiring_asks sorts.Rect = wire_words
wiring_asks sorts.Polygon = wire_words
wiring_asks _ = []

-- After `END DESIGN`.
abbrev pub end_asks : Sort → List Question
end_asks sorts.TextEnd = end_words
end_asks _ = []

-- ## the units of each section

-- By the first word of a unit, what is asked of its words. Of further words nothing is.
abbrev pub asks_of : Section → List Token → List Question
asks_of sections.Top unit = top_asks (sort_at 0 unit)
asks_of sections.Components unit = entry_asks (sort_at 0 unit)
asks_of sections.EntryPart unit = placed_asks (sort_at 0 unit)
asks_of sections.Part unit = part_asks (sort_at 0 unit)
asks_of sections.Parts unit = shape_asks (sort_at 0 unit)
asks_of sections.Rects unit = shape_asks (sort_at 0 unit)
asks_of sections.Placement unit = placement_asks (sort_at 0 unit)
asks_of sections.Regions unit = regions_asks (sort_at 0 unit)
asks_of sections.Region unit = region_asks (sort_at 0 unit)
asks_of sections.WiringPart unit = wiring_asks (sort_at 0 unit)
asks_of sections.Ended unit = end_asks (sort_at 0 unit)
asks_of _ unit = []

abbrev pub question_or : Option Question → Question
question_or None = Nothing
question_or (Some question) = question

-- What is asked of the word that has n words before it.
abbrev pub question_at : List Question → ℕ → Question
question_at asks n = question_or (slice_get asks n)

-- What is asked of the last of these words of a unit of this section.
abbrev pub question_of : Section → List Token → Question
question_of section unit = question_at (asks_of section unit) (length unit - 1)

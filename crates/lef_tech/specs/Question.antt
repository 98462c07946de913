-- What is asked of each word of a statement.
use Rattle.lef_tech.specs.declared.number.Quantity.{Quantity}
use Rattle.lef_tech.specs.declared.number.Quantity.TheVariants as quantities
use Rattle.lef_tech.specs.declared.question.Question.{Question}
use Rattle.lef_tech.specs.declared.question.Question.TheVariants.{Nothing, Number, Microns, Point, Value, AllValues, NewLayer, NewRule, KnownLayer, OwnName, Used}
use Rattle.lef_tech.specs.declared.section.Section.{Section}
use Rattle.lef_tech.specs.declared.section.Section.TheVariants as sections
use Rattle.lef_tech.specs.declared.sort.Sort.{Sort}
use Rattle.lef_tech.specs.declared.sort.Sort.TheVariants as sorts
use Rattle.lef_tech.specs.declared.shape.Shape.{Shape}
use Rattle.lef_tech.specs.declared.shape.Shape.TheVariants.{One, Two, Three, Four, Five}

-- `LAYER name` and `VIARULE name` at the top.
abbrev pub ask_head : Sort → Question
ask_head sorts.Layer = NewLayer
ask_head sorts.ViaRule = NewRule
ask_head _ = Nothing

abbrev pub ask_top : Shape → Question
ask_top (Two word name) = ask_head word
ask_top _ = Nothing

-- `END name`.
abbrev pub ask_end : Sort → Question
ask_end sorts.End = OwnName
ask_end _ = Nothing

-- `SPACING s ;`, which is known by its `;`, and `DCCURRENTDENSITY AVERAGE v`.
abbrev pub ask_wire_three : Sort → Sort → Question
ask_wire_three sorts.Spacing sorts.Semicolon = Used quantities.Length
ask_wire_three sorts.Current sorts.Width = Nothing
ask_wire_three sorts.Current _ = Number quantities.WireDensity
ask_wire_three _ _ = Nothing

-- `RESISTANCE RPERSQ v ;`, which is known by its `;`, and `DCCURRENTDENSITY AVERAGE WIDTH w`.
abbrev pub ask_wire_four : Sort → Sort → Sort → Question
ask_wire_four sorts.Resistance _ sorts.Semicolon = Used quantities.Resistance
ask_wire_four sorts.Current sorts.Width _ = Number quantities.Length
ask_wire_four _ _ _ = Nothing

-- A routing layer.
abbrev pub ask_wire : Shape → Question
ask_wire (Two word name) = ask_end word
ask_wire (Three word second last) = ask_wire_three word last
ask_wire (Four word second third last) = ask_wire_four word third last
ask_wire _ = Nothing

-- `RESISTANCE v ;`, which is known by its `;`, and `DCCURRENTDENSITY AVERAGE v`.
abbrev pub ask_cut_three : Sort → Sort → Question
ask_cut_three sorts.Resistance sorts.Semicolon = Used quantities.Resistance
ask_cut_three sorts.Current sorts.CutArea = Nothing
ask_cut_three sorts.Current _ = Number quantities.CutDensity
ask_cut_three _ _ = Nothing

-- `DCCURRENTDENSITY AVERAGE CUTAREA a`.
abbrev pub ask_cut_four : Sort → Sort → Question
ask_cut_four sorts.Current sorts.CutArea = Number quantities.Area
ask_cut_four _ _ = Nothing

-- A cut layer.
abbrev pub ask_cut : Shape → Question
ask_cut (Two word name) = ask_end word
ask_cut (Three word second last) = ask_cut_three word last
ask_cut (Four word second third last) = ask_cut_four word third
ask_cut _ = Nothing

-- A point of a table, unless `;` ends the points.
abbrev pub ask_point : Quantity → Sort → Question
ask_point points sorts.Semicolon = Nothing
ask_point points _ = Point points

-- A table among its points: one more point, or `; TABLEENTRIES v`.
abbrev pub ask_table : Quantity → Quantity → Shape → Question
ask_table points values (One word) = ask_point points word
ask_table points values (Three word second last) = Number values
ask_table points values _ = Nothing

-- An entry of a table, or the `;` after the last one.
abbrev pub ask_value : Quantity → Sort → Question
ask_value values sorts.Semicolon = AllValues
ask_value values _ = Value values

-- A table among its entries.
abbrev pub ask_values : Quantity → Shape → Question
ask_values values (One word) = ask_value values word
ask_values values _ = Nothing

-- `END name` and `LAYER name`.
abbrev pub ask_rule_two : Sort → Question
ask_rule_two sorts.End = OwnName
ask_rule_two sorts.Layer = KnownLayer
ask_rule_two _ = Nothing

-- A rule before its first layer or after one of another type.
abbrev pub ask_rule : Shape → Question
ask_rule (Two word name) = ask_rule_two word
ask_rule _ = Nothing

-- `END name`, `LAYER name`, `ENCLOSURE o`, `WIDTH a`.
abbrev pub ask_wire_part_two : Sort → Question
ask_wire_part_two sorts.End = OwnName
ask_wire_part_two sorts.Layer = KnownLayer
ask_wire_part_two sorts.Enclosure = Number quantities.Length
ask_wire_part_two sorts.Width = Number quantities.Length
ask_wire_part_two _ = Nothing

-- `ENCLOSURE o o`.
abbrev pub ask_wire_part_three : Sort → Question
ask_wire_part_three sorts.Enclosure = Number quantities.Length
ask_wire_part_three _ = Nothing

-- `WIDTH a TO b`.
abbrev pub ask_wire_part_four : Sort → Question
ask_wire_part_four sorts.Width = Number quantities.Length
ask_wire_part_four _ = Nothing

-- A rule after a routing layer.
abbrev pub ask_wire_part : Shape → Question
ask_wire_part (Two word second) = ask_wire_part_two word
ask_wire_part (Three word second third) = ask_wire_part_three word
ask_wire_part (Four word second third fourth) = ask_wire_part_four word
ask_wire_part _ = Nothing

-- `END name`, `LAYER name`, `RECT x`, `SPACING x`, `RESISTANCE v`.
abbrev pub ask_cut_part_two : Sort → Question
ask_cut_part_two sorts.End = OwnName
ask_cut_part_two sorts.Layer = KnownLayer
ask_cut_part_two sorts.Rect = Number quantities.Corner
ask_cut_part_two sorts.Spacing = Number quantities.Length
ask_cut_part_two sorts.Resistance = Number quantities.Resistance
ask_cut_part_two _ = Nothing

-- `RECT x y`, and `RECT x y x y`.
abbrev pub ask_corner : Sort → Question
ask_corner sorts.Rect = Number quantities.Corner
ask_corner _ = Nothing

-- `RECT x y x`, `SPACING x BY y`.
abbrev pub ask_cut_part_four : Sort → Question
ask_cut_part_four sorts.Rect = Number quantities.Corner
ask_cut_part_four sorts.Spacing = Number quantities.Length
ask_cut_part_four _ = Nothing

-- A rule after its cut layer.
abbrev pub ask_cut_part : Shape → Question
ask_cut_part (Two word second) = ask_cut_part_two word
ask_cut_part (Three word second third) = ask_corner word
ask_cut_part (Four word second third fourth) = ask_cut_part_four word
ask_cut_part (Five word second third fourth fifth) = ask_corner word
ask_cut_part _ = Nothing

-- `END UNITS`, `DATABASE MICRONS n`.
abbrev pub ask_units : Shape → Question
ask_units (Two word name) = ask_end word
ask_units (Three word second third) = Microns
ask_units _ = Nothing

-- What is asked of the last of these words of a unit of the section.
abbrev pub question_of : Section → Shape → Question
question_of sections.Top shape = ask_top shape
question_of sections.Undirected shape = ask_wire shape
question_of sections.Directed shape = ask_wire shape
question_of sections.Cut shape = ask_cut shape
question_of sections.WireTable shape = ask_table quantities.Length quantities.WireDensity shape
question_of sections.CutTable shape = ask_table quantities.Area quantities.CutDensity shape
question_of sections.WireValues shape = ask_values quantities.WireDensity shape
question_of sections.CutValues shape = ask_values quantities.CutDensity shape
question_of sections.RuleHead shape = ask_rule shape
question_of sections.Rule shape = ask_rule shape
question_of sections.WirePart shape = ask_wire_part shape
question_of sections.CutPart shape = ask_cut_part shape
question_of sections.Units shape = ask_units shape
question_of _ shape = Nothing

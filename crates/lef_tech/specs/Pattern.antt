-- The statements of a technology (LEF/DEF 5.8 Language Reference, "LEF Syntax": UNITS, LAYER, VIARULE GENERATE).
use Rattle.std.specs.Prelude.{Bool, false, ◌==◌, ◌||◌, not, List, [], ◌∷◌}
use Rattle.lef_tech.specs.declared.section.Section.{Section}
use Rattle.lef_tech.specs.declared.section.Section.TheVariants as sections
use Rattle.lef_tech.specs.declared.sort.Sort.{Sort}
use Rattle.lef_tech.specs.declared.sort.Sort.TheVariants.{Layer, ViaRule, Passed, End, Library, Database, Microns, LayerType, Routing, Cut, Direction, Horizontal, Vertical, Spacing, Resistance, PerSquare, Current, Average, Width, CutArea, TableEntries, Enclosure, To, Rect, By, Semicolon, Bracket, Quoted, TextEnd}
use Rattle.lef_tech.specs.Sort.{number_of}
use Rattle.reading.specs.Pattern.{Pattern, One, Then, Or}

-- The sort is this one.
abbrev pub the : Sort → Sort → Bool
the this sort = number_of sort == number_of this

-- The sort is one of these.
abbrev pub among : List Sort → Sort → Bool
among [] sort = false
among (this ∷ others) sort = the this sort || among others sort

-- One word of one of these sorts.
abbrev pub one : List Sort → Pattern Sort
one sorts = One (among sorts)

-- One word of none of these sorts.
abbrev pub other : List Sort → Pattern Sort
other sorts = One (λ sort. not (among sorts sort))

-- This word.
abbrev pub word : Sort → Pattern Sort
word sort = one (sort ∷ [])

-- A name is a bare word other than `;`.
abbrev pub name : Pattern Sort
name = other (Semicolon ∷ Quoted ∷ TextEnd ∷ [])

-- In the place of a number stands any word but `;`, `(` and `)`; whether it is a number is asked of the faults.
abbrev pub number : Pattern Sort
number = other (Semicolon ∷ Bracket ∷ TextEnd ∷ [])

-- Any word.
abbrev pub any : Pattern Sort
any = other (TextEnd ∷ [])

-- `;`.
abbrev pub stop : Pattern Sort
stop = word Semicolon

-- Where a number could stand: `;` or a bracket, or a number and the word after it, which shows whether the number stands
-- alone.
abbrev pub alone : Pattern Sort
alone = Or (one (Semicolon ∷ Bracket ∷ [])) (Then number any)

-- `END` and a name, which has to be that of the section.
abbrev pub section_end : Pattern Sort
section_end = Then (word End) any

-- Between sections: `LAYER name`, `VIARULE name`, the head of a section that is passed over, `END LIBRARY`, the first word
-- of `UNITS` or of what else is passed over, or the end of the text.
abbrev pub top : Pattern Sort
top = Or (Then (word Layer) name) (Or (Then (word ViaRule) name) (Or (Then (word Passed) name)
    (Or (Then (word End) (word Library)) (other (Layer ∷ ViaRule ∷ Passed ∷ End ∷ Semicolon ∷ [])))))

-- The first statement of a layer: `TYPE ROUTING ;`, `TYPE CUT ;`, or `TYPE` and another type, which is any other word but
-- `;`, also one in quotes.
abbrev pub layer_start : Pattern Sort
layer_start = Then (word LayerType) (Or (Then (one (Routing ∷ Cut ∷ [])) stop)
    (other (Routing ∷ Cut ∷ Semicolon ∷ TextEnd ∷ [])))

-- `DIRECTION HORIZONTAL ;`, `DIRECTION VERTICAL ;`.
abbrev pub direction : Pattern Sort
direction = Then (word Direction) (Then (one (Horizontal ∷ Vertical ∷ [])) stop)

-- `SPACING s ;`, or the beginning of another `SPACING`.
abbrev pub spacing : Pattern Sort
spacing = Then (word Spacing) alone

-- `RESISTANCE RPERSQ v ;`, or the beginning of another `RESISTANCE`.
abbrev pub wire_resistance : Pattern Sort
wire_resistance = Then (word Resistance) (Or (other (PerSquare ∷ TextEnd ∷ [])) (Then (word PerSquare) alone))

-- `RESISTANCE v ;`, or the beginning of another `RESISTANCE`.
abbrev pub cut_resistance : Pattern Sort
cut_resistance = Then (word Resistance) alone

-- `DCCURRENTDENSITY AVERAGE v ;`, the head of a table by this word, or the beginning of another `DCCURRENTDENSITY`.
abbrev pub current : Sort → Pattern Sort
current by = Then (word Current) (Or (other (Average ∷ TextEnd ∷ [])) (Then (word Average)
    (Or (Then (word by) number) (Then (other (by ∷ Semicolon ∷ Bracket ∷ TextEnd ∷ [])) stop))))

-- `TYPE ROUTING ;` or `TYPE CUT ;` once more.
abbrev pub type_again : Pattern Sort
type_again = Then (word LayerType) (Then (one (Routing ∷ Cut ∷ [])) stop)

-- A statement of a routing layer.
abbrev pub undirected : Pattern Sort
undirected = Or direction (Or spacing (Or wire_resistance (Or (current Width) (Or type_again
    (other (Direction ∷ Spacing ∷ Resistance ∷ Current ∷ LayerType ∷ End ∷ Semicolon ∷ TextEnd ∷ []))))))

-- A statement of a routing layer that has its direction, or its end.
abbrev pub directed : Pattern Sort
directed = Or section_end undirected

-- A statement of a cut layer, or its end.
abbrev pub cut : Pattern Sort
cut = Or section_end (Or cut_resistance (Or (current CutArea) (Or type_again
    (other (Resistance ∷ Current ∷ LayerType ∷ End ∷ Semicolon ∷ TextEnd ∷ [])))))

-- One more point of a table, or `; TABLEENTRIES v`.
abbrev pub table : Pattern Sort
table = Or number (Then stop (Then (word TableEntries) number))

-- One more entry of a table, or its end.
abbrev pub values : Pattern Sort
values = Or number stop

-- `LAYER name ;` in a rule.
abbrev pub part : Pattern Sort
part = Then (word Layer) (Then name stop)

-- A statement of a rule before its first layer or after one of another type, or its end.
abbrev pub rule : Pattern Sort
rule = Or part (Or section_end (other (Layer ∷ End ∷ Semicolon ∷ TextEnd ∷ [])))

-- A statement after a routing layer of a rule, as `ENCLOSURE o o ;` and `WIDTH a TO b ;`, or the rule's end.
abbrev pub wire_part : Pattern Sort
wire_part = Or part (Or section_end
    (Or (Then (word Enclosure) (Then number (Then number stop)))
    (Or (Then (word Width) (Then number (Then (word To) (Then number stop))))
    (other (Layer ∷ End ∷ Enclosure ∷ Width ∷ Semicolon ∷ TextEnd ∷ [])))))

-- A statement after the cut layer of a rule, as `RECT x y x y ;`, `SPACING x BY y ;` and `RESISTANCE v ;`, or the rule's
-- end.
abbrev pub cut_part : Pattern Sort
cut_part = Or part (Or section_end
    (Or (Then (word Rect) (Then number (Then number (Then number (Then number stop)))))
    (Or (Then (word Spacing) (Then number (Then (word By) (Then number stop))))
    (Or (Then (word Resistance) (Then number stop))
    (other (Layer ∷ End ∷ Rect ∷ Spacing ∷ Resistance ∷ Semicolon ∷ TextEnd ∷ []))))))

-- A statement of `UNITS`, as `DATABASE MICRONS n ;`, or its end.
abbrev pub units : Pattern Sort
units = Or (Then (word Database) (Then (word Microns) (Then number stop)))
    (Or section_end (other (Database ∷ End ∷ Semicolon ∷ TextEnd ∷ [])))

-- What may stand in each section. Of what is passed over, and after the name of a rule, each word is a unit.
abbrev pub pattern : Section → Pattern Sort
pattern sections.Top = top
pattern sections.Passing = any
pattern sections.LayerStart = layer_start
pattern sections.Undirected = undirected
pattern sections.Directed = directed
pattern sections.Cut = cut
pattern sections.WireTable = table
pattern sections.WireValues = values
pattern sections.CutTable = table
pattern sections.CutValues = values
pattern sections.RuleStart = any
pattern sections.RuleHead = rule
pattern sections.Rule = rule
pattern sections.WirePart = wire_part
pattern sections.CutPart = cut_part
pattern sections.Units = units
pattern sections.Ended = word TextEnd

-- The sorts of the words of a design (LEF/DEF 5.8 Language Reference, "DEF Syntax"): the keywords, the marks, other
-- words, and the end of the text.
use Rattle.std.specs.Prelude.{◌≡◌, ℕ, ◌≤◌, ◌==◌, Bool, List, [], ◌∷◌, length, slice_get, Some, codes}
use Rattle.std.proofs.Common.{refl, arith}
use denote.Enum.Declared.{tag_of}
use Rattle.def_statements.specs.declared.sort.Sort.{Sort}
use Rattle.def_statements.specs.contracts.sort.Sort.{the_type}
use Rattle.def_statements.specs.declared.sort.Sort.TheVariants.{Semicolon, Open, Close, Plus, Minus, N, FS, S, FN, W, E, FW, FE, Placed, Fixed, End, Design, Units, Distance, Microns, DieArea, Row, Do, By, Step, Components, Blockages, Regions, SpecialNets, PassedSection, Fills, BeginExt, Layer, Placement, Spacing, PushDown, Component, Width, ExceptPgNet, Rect, Polygon, Routed, Quoted, Other, TextEnd}
use Rattle.reading.specs.declared.word.Form.{Form}
use Rattle.reading.specs.declared.word.Form.TheVariants.{Bare, End as EndForm}
use Rattle.reading.specs.Keyword.{keyword_or}
use Rattle.reading.specs.Word.{Token}

-- The place of the variant among all.
abbrev pub number_of : Sort → ℕ
number_of = elim [ Semicolon ↦ 0 | sort ↦ tag_of the_type sort ]

abbrev pub all_sorts : List Sort
all_sorts =
    Semicolon ∷ Open ∷ Close ∷ Plus ∷ Minus ∷ N ∷ FS ∷ S ∷ FN ∷ W ∷ E ∷ FW ∷ FE ∷ Placed ∷ Fixed ∷ End ∷ Design
    ∷ Units ∷ Distance ∷ Microns ∷ DieArea ∷ Row ∷ Do ∷ By ∷ Step ∷ Components ∷ Blockages ∷ Regions ∷ SpecialNets
    ∷ PassedSection ∷ Fills ∷ BeginExt ∷ Layer ∷ Placement ∷ Spacing ∷ PushDown ∷ Component ∷ Width ∷ ExceptPgNet
    ∷ Rect ∷ Polygon ∷ Routed ∷ Quoted ∷ Other ∷ TextEnd ∷ []

-- The sort is this one.
abbrev pub the : Sort → Sort → Bool
the this sort = number_of sort == number_of this

-- The keywords stand in short tables, one after the other.

abbrev pub marks : List (List ℕ × Sort)
marks =
    (codes ";", Semicolon) ∷ (codes "(", Open) ∷ (codes ")", Close) ∷ (codes "+", Plus) ∷ (codes "-", Minus) ∷ []

-- The orientations.
abbrev pub turns : List (List ℕ × Sort)
turns =
    (codes "N", N) ∷ (codes "FS", FS) ∷ (codes "S", S) ∷ (codes "FN", FN) ∷ (codes "W", W) ∷ (codes "E", E)
    ∷ (codes "FW", FW) ∷ (codes "FE", FE) ∷ []

-- The words of places and of the design.
abbrev pub statements : List (List ℕ × Sort)
statements =
    (codes "PLACED", Placed) ∷ (codes "FIXED", Fixed) ∷ (codes "COVER", Fixed) ∷ (codes "END", End)
    ∷ (codes "DESIGN", Design) ∷ (codes "UNITS", Units) ∷ (codes "DISTANCE", Distance) ∷ (codes "MICRONS", Microns)
    ∷ []

-- The words of the area and of rows.
abbrev pub rows : List (List ℕ × Sort)
rows =
    (codes "DIEAREA", DieArea) ∷ (codes "ROW", Row) ∷ (codes "DO", Do) ∷ (codes "BY", By) ∷ (codes "STEP", Step) ∷ []

-- The heads of sections.
abbrev pub sections : List (List ℕ × Sort)
sections =
    (codes "COMPONENTS", Components) ∷ (codes "BLOCKAGES", Blockages) ∷ (codes "REGIONS", Regions)
    ∷ (codes "SPECIALNETS", SpecialNets) ∷ (codes "FILLS", Fills) ∷ (codes "SLOTS", Fills) ∷ (codes "BEGINEXT", BeginExt)
    ∷ []

-- The heads of sections that are passed over.
abbrev pub passed : List (List ℕ × Sort)
passed =
    (codes "VIAS", PassedSection) ∷ (codes "PROPERTYDEFINITIONS", PassedSection) ∷ (codes "NONDEFAULTRULES", PassedSection)
    ∷ (codes "STYLES", PassedSection) ∷ (codes "PINS", PassedSection) ∷ (codes "PINPROPERTIES", PassedSection)
    ∷ (codes "NETS", PassedSection) ∷ (codes "SCANCHAINS", PassedSection) ∷ (codes "GROUPS", PassedSection) ∷ []

-- The words of the parts of entries.
abbrev pub parts : List (List ℕ × Sort)
parts =
    (codes "LAYER", Layer) ∷ (codes "PLACEMENT", Placement) ∷ (codes "SPACING", Spacing) ∷ (codes "PUSHDOWN", PushDown)
    ∷ (codes "COMPONENT", Component) ∷ (codes "DESIGNRULEWIDTH", Width) ∷ (codes "MASK", Width)
    ∷ (codes "EXCEPTPGNET", ExceptPgNet) ∷ []

-- The words of shapes and of wiring.
abbrev pub shapes : List (List ℕ × Sort)
shapes =
    (codes "RECT", Rect) ∷ (codes "POLYGON", Polygon) ∷ (codes "ROUTED", Routed) ∷ (codes "SHIELD", Routed) ∷ []

-- The sort of a bare word.
abbrev pub sort_of_shape : List ℕ → Sort
sort_of_shape text = keyword_or shapes Other text

abbrev pub sort_of_part : List ℕ → Sort
sort_of_part text = keyword_or parts (sort_of_shape text) text

abbrev pub sort_of_passed : List ℕ → Sort
sort_of_passed text = keyword_or passed (sort_of_part text) text

abbrev pub sort_of_section : List ℕ → Sort
sort_of_section text = keyword_or sections (sort_of_passed text) text

abbrev pub sort_of_row : List ℕ → Sort
sort_of_row text = keyword_or rows (sort_of_section text) text

abbrev pub sort_of_statement : List ℕ → Sort
sort_of_statement text = keyword_or statements (sort_of_row text) text

abbrev pub sort_of_turn : List ℕ → Sort
sort_of_turn text = keyword_or turns (sort_of_statement text) text

abbrev pub sort_of_text : List ℕ → Sort
sort_of_text text = keyword_or marks (sort_of_turn text) text

-- The sort of a word of this form. A word in quotes is no keyword and no mark.
abbrev pub sort_with : Form → List ℕ → Sort
sort_with Bare text = sort_of_text text
sort_with EndForm text = TextEnd
sort_with _ text = Quoted

abbrev pub sort_of : Token → Sort
sort_of word = sort_with word.form word.text

-- Each sort stands in the list at its number, and there are few.
pub listed : (sort : Sort) → slice_get all_sorts (number_of sort) ≡ Some sort
listed = elim [ Semicolon ↦ refl | _ ↦ refl ]

pub few : length all_sorts ≤ 64
few = omega arith

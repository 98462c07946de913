-- The sorts of the words of a design's wiring (LEF/DEF 5.8 Language Reference, "DEF Syntax", VIAS and SPECIALNETS): the
-- keywords, the marks, other words, and the end of the text.
use Rattle.std.specs.Prelude.{◌≡◌, ℕ, ◌≤◌, ◌==◌, Bool, List, [], ◌∷◌, length, slice_get, Some, codes}
use Rattle.std.proofs.Common.{refl, arith}
use denote.Enum.Declared.{tag_of}
use Rattle.def_wiring.specs.declared.sort.Sort.{Sort}
use Rattle.def_wiring.specs.contracts.sort.Sort.{the_type}
use Rattle.def_wiring.specs.declared.sort.Sort.TheVariants.{Semicolon, Open, Close, Plus, Minus, Star, North, Turn, Do, End, Design, Vias, SpecialNets, PassedSection, BeginExt, ViaRule, CutSize, Layers, CutSpacing, Enclosure, RowCol, Unread, Use, Power, Ground, Routed, New, ShapeWord, Ring, FollowPin, Unwired, Via, Quoted, Other, TextEnd}
use Rattle.reading.specs.declared.word.Form.{Form}
use Rattle.reading.specs.declared.word.Form.TheVariants.{Bare, End as EndForm}
use Rattle.reading.specs.Keyword.{keyword_or}
use Rattle.reading.specs.Word.{Token}

-- The place of the variant among all.
abbrev pub number_of : Sort → ℕ
number_of = elim [ Semicolon ↦ 0 | sort ↦ tag_of the_type sort ]

abbrev pub all_sorts : List Sort
all_sorts =
    Semicolon ∷ Open ∷ Close ∷ Plus ∷ Minus ∷ Star ∷ North ∷ Turn ∷ Do ∷ End ∷ Design ∷ Vias ∷ SpecialNets ∷ PassedSection ∷ BeginExt ∷ ViaRule ∷ CutSize ∷ Layers ∷ CutSpacing ∷ Enclosure ∷ RowCol ∷ Unread ∷ Use ∷ Power ∷ Ground ∷ Routed ∷ New ∷ ShapeWord ∷ Ring ∷ FollowPin ∷ Unwired ∷ Via ∷ Quoted ∷ Other ∷ TextEnd ∷ []

-- The sort is this one.
abbrev pub the : Sort → Sort → Bool
the this sort = number_of sort == number_of this

-- The marks and the orientations.
abbrev pub marks : List (List ℕ × Sort)
marks =
    (codes ";", Semicolon) ∷ (codes "(", Open) ∷ (codes ")", Close) ∷ (codes "+", Plus) ∷ (codes "-", Minus)
    ∷ (codes "*", Star) ∷ (codes "N", North) ∷ (codes "S", Turn) ∷ (codes "W", Turn) ∷ (codes "E", Turn)
    ∷ (codes "FN", Turn) ∷ (codes "FS", Turn) ∷ (codes "FW", Turn) ∷ (codes "FE", Turn) ∷ (codes "DO", Do) ∷ []

-- The words of statements and of the heads of sections.
abbrev pub statements : List (List ℕ × Sort)
statements =
    (codes "END", End) ∷ (codes "DESIGN", Design) ∷ (codes "VIAS", Vias) ∷ (codes "SPECIALNETS", SpecialNets)
    ∷ (codes "PROPERTYDEFINITIONS", PassedSection) ∷ (codes "NONDEFAULTRULES", PassedSection)
    ∷ (codes "STYLES", PassedSection) ∷ (codes "PINS", PassedSection) ∷ (codes "PINPROPERTIES", PassedSection)
    ∷ (codes "NETS", PassedSection) ∷ (codes "SCANCHAINS", PassedSection) ∷ (codes "GROUPS", PassedSection)
    ∷ (codes "FILLS", PassedSection) ∷ (codes "SLOTS", PassedSection) ∷ (codes "REGIONS", PassedSection)
    ∷ (codes "COMPONENTS", PassedSection) ∷ (codes "BLOCKAGES", PassedSection) ∷ (codes "BEGINEXT", BeginExt) ∷ []

-- The words of the parts of vias and nets.
abbrev pub parts : List (List ℕ × Sort)
parts =
    (codes "VIARULE", ViaRule) ∷ (codes "CUTSIZE", CutSize) ∷ (codes "LAYERS", Layers)
    ∷ (codes "CUTSPACING", CutSpacing) ∷ (codes "ENCLOSURE", Enclosure) ∷ (codes "ROWCOL", RowCol)
    ∷ (codes "ORIGIN", Unread) ∷ (codes "OFFSET", Unread) ∷ (codes "PATTERN", Unread) ∷ (codes "USE", Use)
    ∷ (codes "POWER", Power) ∷ (codes "GROUND", Ground) ∷ (codes "ROUTED", Routed) ∷ (codes "FIXED", Routed)
    ∷ (codes "COVER", Routed) ∷ (codes "NEW", New) ∷ (codes "SHAPE", ShapeWord) ∷ (codes "RING", Ring)
    ∷ (codes "FOLLOWPIN", FollowPin) ∷ (codes "RECT", Unwired) ∷ (codes "POLYGON", Unwired) ∷ (codes "SHIELD", Unwired)
    ∷ (codes "VIRTUAL", Unwired) ∷ (codes "STYLE", Unwired) ∷ (codes "MASK", Unwired) ∷ (codes "VIA", Via) ∷ []

-- The sort of a bare word.
abbrev pub sort_of_part : List ℕ → Sort
sort_of_part text = keyword_or parts Other text

abbrev pub sort_of_statement : List ℕ → Sort
sort_of_statement text = keyword_or statements (sort_of_part text) text

abbrev pub sort_of_text : List ℕ → Sort
sort_of_text text = keyword_or marks (sort_of_statement text) text

-- The sort of a word of this form. A word in quotes is no keyword and no mark.
abbrev pub sort_with : Form → List ℕ → Sort
sort_with Bare text = sort_of_text text
sort_with EndForm text = TextEnd
sort_with _ text = Quoted

abbrev pub sort_of : Token → Sort
sort_of word = sort_with word.form word.text

-- Each sort stands in the list at its number, and there are few.
pub listed : (sort : Sort) → slice_get all_sorts (number_of sort) ≡ Some sort
listed = elim [ Semicolon ↦ refl | _ ↦ refl ]

pub few : length all_sorts ≤ 64
few = omega arith

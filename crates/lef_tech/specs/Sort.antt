-- The sorts of the words of a technology: keywords, the words that are never a number, words in quotes, others, and the
-- end of the text.
use Rattle.std.specs.Prelude.{◌≡◌, ℕ, ◌≤◌, List, [], ◌∷◌, length, slice_get, Some, codes}
use Rattle.std.proofs.Common.{refl, arith}
use denote.Enum.Declared.{tag_of}
use Rattle.lef_tech.specs.declared.sort.Sort.{Sort}
use Rattle.lef_tech.specs.contracts.sort.Sort.{the_type}
use Rattle.lef_tech.specs.declared.sort.Sort.TheVariants.{Layer, ViaRule, Units, Passed, Definitions, Extension, End, Library, Database, Microns, LayerType, Routing, Cut, Direction, Horizontal, Vertical, Spacing, Resistance, PerSquare, Current, Average, Width, CutArea, TableEntries, Generate, Default, Enclosure, To, Rect, By, Semicolon, Bracket, Quoted, Other, TextEnd}
use Rattle.reading.specs.declared.word.Form.{Form}
use Rattle.reading.specs.declared.word.Form.TheVariants as forms
use Rattle.reading.specs.Keyword.{keyword_or}
use Rattle.reading.specs.Word.{Token}

-- The place of the variant among all.
abbrev pub number_of : Sort → ℕ
number_of = elim [ Layer ↦ 0 | sort ↦ tag_of the_type sort ]

abbrev pub all_sorts : List Sort
all_sorts =
    Layer ∷ ViaRule ∷ Units ∷ Passed ∷ Definitions ∷ Extension ∷ End ∷ Library ∷ Database ∷ Microns ∷ LayerType ∷
    Routing ∷ Cut ∷ Direction ∷ Horizontal ∷ Vertical ∷ Spacing ∷ Resistance ∷ PerSquare ∷ Current ∷ Average ∷
    Width ∷ CutArea ∷ TableEntries ∷ Generate ∷ Default ∷ Enclosure ∷ To ∷ Rect ∷ By ∷ Semicolon ∷ Bracket ∷
    Quoted ∷ Other ∷ TextEnd ∷ []

-- The keywords, and the words that never stand for a number.
abbrev pub keywords : List (List ℕ × Sort)
keywords =
    (codes "LAYER", Layer) ∷ (codes "VIARULE", ViaRule) ∷ (codes "UNITS", Units) ∷ (codes "VIA", Passed)
    ∷ (codes "NONDEFAULTRULE", Passed) ∷ (codes "SITE", Passed) ∷ (codes "MACRO", Passed)
    ∷ (codes "PROPERTYDEFINITIONS", Definitions) ∷ (codes "BEGINEXT", Extension) ∷ (codes "END", End)
    ∷ (codes "LIBRARY", Library) ∷ (codes "DATABASE", Database) ∷ (codes "MICRONS", Microns)
    ∷ (codes "TYPE", LayerType) ∷ (codes "ROUTING", Routing) ∷ (codes "CUT", Cut) ∷ (codes "DIRECTION", Direction)
    ∷ (codes "HORIZONTAL", Horizontal) ∷ (codes "VERTICAL", Vertical) ∷ (codes "SPACING", Spacing)
    ∷ (codes "RESISTANCE", Resistance) ∷ (codes "RPERSQ", PerSquare) ∷ (codes "DCCURRENTDENSITY", Current)
    ∷ (codes "AVERAGE", Average) ∷ (codes "WIDTH", Width) ∷ (codes "CUTAREA", CutArea)
    ∷ (codes "TABLEENTRIES", TableEntries) ∷ (codes "GENERATE", Generate) ∷ (codes "DEFAULT", Default)
    ∷ (codes "ENCLOSURE", Enclosure) ∷ (codes "TO", To) ∷ (codes "RECT", Rect) ∷ (codes "BY", By)
    ∷ (codes ";", Semicolon) ∷ (codes "(", Bracket) ∷ (codes ")", Bracket) ∷ []

-- The sort of a bare word.
abbrev pub sort_of_text : List ℕ → Sort
sort_of_text text = keyword_or keywords Other text

-- The sort of a word of this form. A word in quotes is no keyword and no mark. In LEF there are no other forms.
abbrev pub sort_with : Form → List ℕ → Sort
sort_with forms.Bare text = sort_of_text text
sort_with forms.End text = TextEnd
sort_with form text = Quoted

abbrev pub sort_of : Token → Sort
sort_of word = sort_with word.form word.text

-- Each sort stands in the list at its number, and there are few.
pub listed : (sort : Sort) → slice_get all_sorts (number_of sort) ≡ Some sort
listed = elim [ Layer ↦ refl | _ ↦ refl ]

pub few : length all_sorts ≤ 64
few = omega arith

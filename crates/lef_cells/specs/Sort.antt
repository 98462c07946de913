-- The sorts of the words of a LEF library, as the reader of its cells tells them apart: the keywords, the marks, other
-- words, and the end of the text.
use Rattle.std.specs.Prelude.{◌≡◌, ℕ, ◌≤◌, ◌==◌, Bool, List, [], ◌∷◌, length, slice_get, Some, codes}
use Rattle.std.proofs.Common.{refl, arith}
use denote.Enum.Declared.{tag_of}
use Rattle.lef_cells.specs.declared.sort.Sort.{Sort}
use Rattle.lef_cells.specs.contracts.sort.Sort.{the_type}
use Rattle.lef_cells.specs.declared.sort.Sort.TheVariants.{Site, Macro, NamedSection, WordSection, BeginExt, End, Library, Size, By, Class, Pin, Group, Semicolon, Bracket, Quoted, Other, TextEnd}
use Rattle.reading.specs.declared.word.Form.{Form}
use Rattle.reading.specs.declared.word.Form.TheVariants.{Bare, End as EndForm}
use Rattle.reading.specs.Keyword.{keyword_or}
use Rattle.reading.specs.Word.{Token}

-- The place of the variant among all.
abbrev pub number_of : Sort → ℕ
number_of = elim [ Site ↦ 0 | sort ↦ tag_of the_type sort ]

abbrev pub all_sorts : List Sort
all_sorts =
    Site ∷ Macro ∷ NamedSection ∷ WordSection ∷ BeginExt ∷ End ∷ Library ∷ Size ∷ By ∷ Class ∷ Pin ∷ Group ∷ Semicolon
    ∷ Bracket ∷ Quoted ∷ Other ∷ TextEnd ∷ []

-- The sort is this one.
abbrev pub the : Sort → Sort → Bool
the this sort = number_of sort == number_of this

-- The keywords and the marks. `LAYER` and its like begin a section that ends with `END` and its name, `UNITS` and its
-- like one that ends with `END` and the same word, `OBS` and `DENSITY` a group that ends with `END`.
abbrev pub keywords : List (List ℕ × Sort)
keywords =
    (codes "SITE", Site) ∷ (codes "MACRO", Macro) ∷ (codes "VIA", NamedSection) ∷ (codes "NONDEFAULTRULE", NamedSection)
    ∷ (codes "LAYER", NamedSection) ∷ (codes "VIARULE", NamedSection) ∷ (codes "PROPERTYDEFINITIONS", WordSection)
    ∷ (codes "SPACING", WordSection) ∷ (codes "UNITS", WordSection) ∷ (codes "BEGINEXT", BeginExt) ∷ (codes "END", End)
    ∷ (codes "LIBRARY", Library) ∷ (codes "SIZE", Size) ∷ (codes "BY", By) ∷ (codes "CLASS", Class) ∷ (codes "PIN", Pin)
    ∷ (codes "OBS", Group) ∷ (codes "DENSITY", Group) ∷ (codes ";", Semicolon) ∷ (codes "(", Bracket)
    ∷ (codes ")", Bracket) ∷ []

-- The sort of a bare word.
abbrev pub sort_of_text : List ℕ → Sort
sort_of_text text = keyword_or keywords Other text

-- The sort of a word of this form. A word in quotes is no keyword and no mark.
abbrev pub sort_with : Form → List ℕ → Sort
sort_with Bare text = sort_of_text text
sort_with EndForm text = TextEnd
sort_with _ text = Quoted

abbrev pub sort_of : Token → Sort
sort_of word = sort_with word.form word.text

-- Each sort stands in the list at its number, and there are few.
pub listed : (sort : Sort) → slice_get all_sorts (number_of sort) ≡ Some sort
listed = elim [ Site ↦ refl | _ ↦ refl ]

pub few : length all_sorts ≤ 64
few = omega arith

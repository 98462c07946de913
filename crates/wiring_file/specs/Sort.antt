-- The sorts of the words of a written wiring (LEF/DEF 5.8 Language Reference, "DEF Syntax"): the keywords, the marks, other
-- words, and the end of the text.
use Rattle.std.specs.Prelude.{◌≡◌, ℕ, ◌≤◌, ◌==◌, Bool, List, [], ◌∷◌, ◌++◌, length, slice_get, Some, codes}
use Rattle.std.proofs.Common.{refl, arith}
use denote.Enum.Declared.{tag_of}
use Rattle.wiring_file.specs.declared.sort.Sort.{Sort}
use Rattle.wiring_file.specs.contracts.sort.Sort.{the_type}
use Rattle.wiring_file.specs.declared.sort.Sort.TheVariants.{Semicolon, Open, Close, Plus, Minus, Version, Edition, DividerChar, BusBitChars, Design, Units, Distance, Microns, DieArea, Vias, ViaRule, CutSize, Layers, CutSpacing, Enclosure, RowCol, End, SpecialNets, Use, Supply, Routed, New, Shape, Stripe, Drawn, Slash, Brackets, Quoted, Other, TextEnd}
use Rattle.reading.specs.declared.word.Form.{Form}
use Rattle.reading.specs.declared.word.Form.TheVariants.{Bare, Quoted as QuotedForm, End as EndForm}
use Rattle.reading.specs.Keyword.{keyword_or}
use Rattle.reading.specs.Word.{Token}

-- The place of the variant among all.
abbrev pub number_of : Sort → ℕ
number_of = elim [ Semicolon ↦ 0 | sort ↦ tag_of the_type sort ]

abbrev pub all_sorts : List Sort
all_sorts =
    Semicolon ∷ Open ∷ Close ∷ Plus ∷ Minus ∷ Version ∷ Edition ∷ DividerChar ∷ BusBitChars ∷ Design ∷ Units ∷
    Distance ∷ Microns ∷ DieArea ∷ Vias ∷ ViaRule ∷ CutSize ∷ Layers ∷ CutSpacing ∷ Enclosure ∷ RowCol ∷ End ∷
    SpecialNets ∷ Use ∷ Supply ∷ Routed ∷ New ∷ Shape ∷ Stripe ∷ Drawn ∷ Slash ∷ Brackets ∷ Quoted ∷ Other ∷
    TextEnd ∷ []

-- The sort is this one.
abbrev pub the : Sort → Sort → Bool
the this sort = number_of sort == number_of this

-- The marks.
abbrev pub marks : List (List ℕ × Sort)
marks = (codes ";", Semicolon) ∷ (codes "(", Open) ∷ (codes ")", Close) ∷ (codes "+", Plus) ∷ (codes "-", Minus) ∷ []

-- The keywords.
abbrev pub keywords : List (List ℕ × Sort)
keywords =
    (codes "VERSION", Version) ∷ (codes "5.8", Edition) ∷ (codes "DIVIDERCHAR", DividerChar)
    ∷ (codes "BUSBITCHARS", BusBitChars) ∷ (codes "DESIGN", Design) ∷ (codes "UNITS", Units)
    ∷ (codes "DISTANCE", Distance) ∷ (codes "MICRONS", Microns) ∷ (codes "DIEAREA", DieArea) ∷ (codes "VIAS", Vias)
    ∷ (codes "VIARULE", ViaRule) ∷ (codes "CUTSIZE", CutSize) ∷ (codes "LAYERS", Layers)
    ∷ (codes "CUTSPACING", CutSpacing) ∷ (codes "ENCLOSURE", Enclosure) ∷ (codes "ROWCOL", RowCol) ∷ (codes "END", End)
    ∷ (codes "SPECIALNETS", SpecialNets) ∷ (codes "USE", Use) ∷ (codes "POWER", Supply) ∷ (codes "GROUND", Supply)
    ∷ (codes "ROUTED", Routed) ∷ (codes "NEW", New) ∷ (codes "SHAPE", Shape) ∷ (codes "STRIPE", Stripe)
    ∷ (codes "RING", Drawn) ∷ (codes "FOLLOWPIN", Drawn) ∷ []

-- The sort of a bare word.
abbrev pub sort_of_text : List ℕ → Sort
sort_of_text text = keyword_or (marks ++ keywords) Other text

-- The sort of a quoted word.
abbrev pub sort_of_quoted : List ℕ → Sort
sort_of_quoted text = keyword_or ((codes "/", Slash) ∷ (codes "[]", Brackets) ∷ []) Quoted text

-- The sort of a word of this form. In DEF words are bare or quoted.
abbrev pub sort_with : Form → List ℕ → Sort
sort_with Bare text = sort_of_text text
sort_with QuotedForm text = sort_of_quoted text
sort_with EndForm text = TextEnd
sort_with _ text = Other

abbrev pub sort_of : Token → Sort
sort_of word = sort_with word.form word.text

-- Each sort stands in the list at its number, and there are few.
pub listed : (sort : Sort) → slice_get all_sorts (number_of sort) ≡ Some sort
listed = elim [ Semicolon ↦ refl | _ ↦ refl ]

pub few : length all_sorts ≤ 64
few = omega arith

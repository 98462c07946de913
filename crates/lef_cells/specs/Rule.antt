-- The units of a LEF library, as the reader of its cells takes it apart (LEF/DEF 5.8 Language Reference, "LEF Syntax").
use Rattle.std.specs.Prelude.{ℕ, Bool, true, false, List, [], ◌∷◌, filter}
use Rattle.lef_cells.specs.declared.section.Section.{Section}
use Rattle.lef_cells.specs.declared.section.Section.TheVariants as places
use Rattle.lef_cells.specs.declared.sort.Sort.{Sort}
use Rattle.lef_cells.specs.declared.sort.Sort.TheVariants.{Site, Macro, NamedSection, End, Library, Size, By, Class, Pin, Semicolon, Bracket, Quoted, TextEnd}
use Rattle.lef_cells.specs.Sort.{the, sort_of}
use Rattle.reading.specs.Blocks.{Block, blocks}
use Rattle.reading.specs.Pattern.{Pattern, One, Then, Or}
use Rattle.reading.specs.Word.{Token}

-- A name is any bare word but `;`, also a keyword.
abbrev pub is_name : Sort → Bool
is_name Semicolon = false
is_name Quoted = false
is_name TextEnd = false
is_name _ = true

-- In the place of a number stands any word but `;`, `(`, `)` and the end of the text; whether it is a number is asked of
-- the faults.
abbrev pub is_number : Sort → Bool
is_number Semicolon = false
is_number Bracket = false
is_number TextEnd = false
is_number _ = true

abbrev pub name : Pattern Sort
name = One is_name

abbrev pub number : Pattern Sort
number = One is_number

-- A keyword and a name: `SITE name`, `PIN name`, `CLASS c`, `END name`.
abbrev pub named : Sort → Pattern Sort
named word = Then (One (the word)) name

-- `SIZE w BY h ;`.
abbrev pub size : Pattern Sort
size = Then (One (the Size)) (Then number (Then (One (the By)) (Then number (One (the Semicolon)))))

-- ## the library

-- A word that begins what is passed over in the library, or the end of the text.
abbrev pub is_other : Sort → Bool
is_other Site = false
is_other Macro = false
is_other NamedSection = false
is_other End = false
is_other Semicolon = false
is_other _ = true

-- Sections, `END LIBRARY`, and what is passed over.
abbrev pub library : Pattern Sort
library =
    Or (named Site) (Or (named Macro) (Or (named NamedSection)
    (Or (Then (One (the End)) (One (the Library))) (One is_other))))

-- ## sites

-- A word that begins another statement of a site.
abbrev pub is_other_of_site : Sort → Bool
is_other_of_site Size = false
is_other_of_site End = false
is_other_of_site Semicolon = false
is_other_of_site TextEnd = false
is_other_of_site _ = true

-- A site does not end before its SIZE.
abbrev pub site : Pattern Sort
site = Or size (One is_other_of_site)

abbrev pub sized_site : Pattern Sort
sized_site = Or (named End) site

-- ## macros

-- A word that begins another statement or a group of a macro.
abbrev pub is_other_of_macro : Sort → Bool
is_other_of_macro Size = false
is_other_of_macro Class = false
is_other_of_macro Pin = false
is_other_of_macro End = false
is_other_of_macro Semicolon = false
is_other_of_macro TextEnd = false
is_other_of_macro _ = true

-- A macro does not end before its SIZE; it may lack a CLASS.
abbrev pub cell : Pattern Sort
cell = Or size (Or (named Class) (Or (named Pin) (One is_other_of_macro)))

abbrev pub sized_cell : Pattern Sort
sized_cell = Or (named End) cell

-- What is passed over goes on with any word but the end of the text.
abbrev pub is_word_of_text : Sort → Bool
is_word_of_text TextEnd = false
is_word_of_text _ = true

-- What may stand in each section.
abbrev pub pattern : Section → Pattern Sort
pattern places.Top = library
pattern places.Site = site
pattern places.SizedSite = sized_site
pattern places.Macro = cell
pattern places.SizedMacro = sized_cell
pattern places.Passed = One is_word_of_text
pattern places.Ended = One (the TextEnd)

-- ## the sections among units

-- The words that open a section.
abbrev pub opens : Sort → Bool
opens Site = true
opens Macro = true
opens _ = false

-- `SITE name`, `MACRO name`.
abbrev pub is_head : List Token → Bool
is_head (first ∷ second ∷ []) = opens (sort_of first)
is_head _ = false

-- `SIZE w BY h ;`.
abbrev pub is_size : List Token → Bool
is_size (first ∷ width ∷ by ∷ height ∷ stop ∷ []) = the Size (sort_of first)
is_size _ = false

-- `CLASS c`.
abbrev pub is_class : List Token → Bool
is_class (first ∷ class ∷ []) = the Class (sort_of first)
is_class _ = false

-- The head begins with this word.
abbrev pub begins_with : Sort → List Token → Bool
begins_with word (first ∷ words) = the word (sort_of first)
begins_with word [] = false

-- The section, a head with the units after it, begins with this word.
abbrev pub starts : Sort → Block Token → Bool
starts word section = begins_with word section.head

-- The sections that begin with this word, in the order of the text.
abbrev pub sections : Sort → List (List Token) → List (Block Token)
sections word units = filter (starts word) (blocks is_head units)

-- The name of a head, after its keyword.
abbrev pub name_in : List Token → List ℕ
name_in (first ∷ second ∷ words) = second.text
name_in _ = []

-- The name of a section.
abbrev pub name_of : Block Token → List ℕ
name_of section = name_in section.head

-- What may follow: the units of the library, of a site or of a macro; one word of what is passed over; nothing but the
-- end of the text after `END LIBRARY` (LEF/DEF 5.8 Language Reference, "LEF Syntax").
use Rattle.std.specs.Prelude.{◌≡◌, ℕ, ◌≤◌, Bool, true, false, List, [], ◌∷◌, length, slice_get, Option, Some, None}
use Rattle.std.proofs.Common.{refl, arith}
use Rattle.lef_cells.specs.declared.section.Section.{Section}
use Rattle.lef_cells.specs.declared.section.Section.TheVariants.{Top, Site, SizedSite, Macro, SizedMacro, Passed, Ended}
use Rattle.lef_cells.specs.declared.section.Standing.{Standing}
use Rattle.lef_cells.specs.declared.sort.Sort.{Sort}
use Rattle.lef_cells.specs.declared.sort.Sort.TheVariants as sorts
use Rattle.lef_cells.specs.Sort.{sort_of}
use Rattle.lef_statements.specs.declared.passing.Passing.{Passing}
use Rattle.lef_statements.specs.declared.passing.Passing.TheVariants as passed
use Rattle.lef_statements.specs.Passing.{passing_after as goes_on}
use Rattle.reading.specs.Word.{Token}

abbrev pub section_number : Section → ℕ
section_number Top = 0
section_number Site = 1
section_number SizedSite = 2
section_number Macro = 3
section_number SizedMacro = 4
section_number Passed = 5
section_number Ended = 6

abbrev pub all_sections : List Section
all_sections = Top ∷ Site ∷ SizedSite ∷ Macro ∷ SizedMacro ∷ Passed ∷ Ended ∷ []

-- ## the section that is open

-- A section after its SIZE.
abbrev pub sized : Section → Section
sized Site = SizedSite
sized Macro = SizedMacro
sized section = section

-- `END` with a name ends the section, and the library where no section is open in it.
abbrev pub closed : Section → Section
closed Top = Ended
closed Ended = Ended
closed _ = Top

-- `SITE name` and `MACRO name` open a section, `END name` ends it.
abbrev pub section_by : Section → Sort → Section
section_by section sorts.Site = Site
section_by section sorts.Macro = Macro
section_by section sorts.End = closed section
section_by section _ = section

-- The section after one more unit: heads and ends have two words, `SIZE w BY h ;` has five.
abbrev pub section_after : Section → List Token → Section
section_after section (first ∷ name ∷ []) = section_by section (sort_of first)
section_after section (size ∷ width ∷ by ∷ height ∷ stop ∷ []) = sized section
section_after section _ = section

-- ## what is passed over in it

-- A word that begins no other unit of the section begins what is passed over: in the library a section or an extension,
-- in a macro a group, and otherwise a statement. The end of the text begins nothing.
abbrev pub passing_by : Section → Sort → Token → Option Passing
passing_by section sorts.TextEnd word = None
passing_by Top sorts.WordSection word = Some (passed.Section word.text)
passing_by Top sorts.BeginExt word = Some passed.Extension
passing_by Macro sorts.Group word = Some passed.Group
passing_by SizedMacro sorts.Group word = Some passed.Group
passing_by section _ word = Some passed.Statement

-- `LAYER name` and its like, and `PIN name`, begin what is passed over to `END name`; after `CLASS c` the rest of the
-- statement is passed over.
abbrev pub passing_named : Sort → Token → Option Passing
passing_named sorts.NamedSection name = Some (passed.Section name.text)
passing_named sorts.Pin name = Some (passed.Section name.text)
passing_named sorts.Class name = Some passed.Statement
passing_named _ name = None

-- What is passed over after one word more.
abbrev pub passing_word : Section → Option Passing → Token → Option Passing
passing_word section None word = passing_by section (sort_of word) word
passing_word section (Some passing) word = goes_on passing word

-- What is passed over after one more unit, of which each word that is passed over is one.
abbrev pub passing_after : Section → Option Passing → List Token → Option Passing
passing_after section passing (word ∷ []) = passing_word section passing word
passing_after section passing (first ∷ name ∷ []) = passing_named (sort_of first) name
passing_after section passing _ = None

-- ## where units lead

abbrev pub standing_after : Standing → List Token → Standing
standing_after standing unit = record {
  section = section_after standing.section unit;
  passing = passing_after standing.section standing.passing unit;
}

-- Where units lead from here.
abbrev pub standing_from : Standing → List (List Token) → Standing
standing_from standing [] = standing
standing_from standing (unit ∷ units) = standing_from (standing_after standing unit) units

-- Where the units of a text lead.
abbrev pub standing_of : List (List Token) → Standing
standing_of units = standing_from (record { section = Top; passing = None }) units

-- The section in which the next unit stands.
abbrev pub section_with : Section → Option Passing → Section
section_with section None = section
section_with section (Some passing) = Passed

abbrev pub section_in : Standing → Section
section_in standing = section_with standing.section standing.passing

abbrev pub section_of : List (List Token) → Section
section_of units = section_in (standing_of units)

-- The library has ended.
abbrev pub is_ended : Section → Bool
is_ended Ended = true
is_ended _ = false

-- Each section stands in the list at its number, and there are few.
pub listed : (section : Section) → slice_get all_sections (section_number section) ≡ Some section
listed Top = refl
listed Site = refl
listed SizedSite = refl
listed Macro = refl
listed SizedMacro = refl
listed Passed = refl
listed Ended = refl

pub few : length all_sections ≤ 64
few = omega arith

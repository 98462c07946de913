-- Where units lead: the section that is open, and what is being passed over in it (LEF/DEF 5.8 Language Reference, "DEF
-- Syntax").
use Rattle.std.specs.Prelude.{ℕ, Bool, true, false, List, [], ◌∷◌, Option, Some, None}
use Rattle.def_statements.specs.declared.section.Section.{Section}
use Rattle.def_statements.specs.declared.section.Section.TheVariants.{Top, Components, Entry, EntryPart, Blockages, BlockageKind, Parts, Part, Rects, Placement, Regions, Region, Wiring, WiringPart, WiringEnd, Passed, Ended}
use Rattle.def_statements.specs.declared.sort.Sort.{Sort}
use Rattle.def_statements.specs.declared.sort.Sort.TheVariants as sorts
use Rattle.def_statements.specs.declared.standing.Standing.{Standing}
use Rattle.def_statements.specs.Sort.{the, sort_of}
use Rattle.def_statements.specs.Unit.{sort_at, text_at, last_sort}
use Rattle.lef_statements.specs.declared.passing.Passing.{Passing}
use Rattle.lef_statements.specs.declared.passing.Passing.TheVariants as passed
use Rattle.lef_statements.specs.Passing.{unless, passing_after as goes_on}
use Rattle.reading.specs.Word.{Token}

-- ## the section after a unit that begins with a word of this sort

-- The four sections that are read, and the end of the design.
abbrev pub after_top : Sort → Section
after_top sorts.Components = Components
after_top sorts.Blockages = Blockages
after_top sorts.Regions = Regions
after_top sorts.SpecialNets = Wiring
after_top sorts.End = Ended
after_top _ = Top

-- `END` with the section's name ends the section, and `-` begins an entry of it.
abbrev pub after_entry_head : Section → Section → Sort → Section
after_entry_head section next sorts.End = Top
after_entry_head section next sorts.Minus = next
after_entry_head section next _ = section

-- An entry of COMPONENTS: parts begin with `+`.
abbrev pub after_entry : Sort → Section
after_entry sorts.Plus = EntryPart
after_entry sorts.Semicolon = Components
after_entry _ = Entry

-- The word after the `-` of a blockage.
abbrev pub after_kind : Sort → Section
after_kind sorts.Layer = Parts
after_kind _ = Placement

-- A blockage over a layer before its first RECT, and after one.
abbrev pub after_parts : Sort → Section
after_parts sorts.Plus = Part
after_parts sorts.Rect = Rects
after_parts _ = Parts

abbrev pub after_rects : Sort → Section
after_rects sorts.Semicolon = Blockages
after_rects _ = Rects

abbrev pub after_placement : Sort → Section
after_placement sorts.Semicolon = Blockages
after_placement _ = Placement

-- An entry of REGIONS after a rectangle: one more rectangle, `;`, or further words, which are passed over to `;`.
abbrev pub after_region : Sort → Section
after_region sorts.Open = Region
after_region _ = Regions

abbrev pub after_wiring : Sort → Section
after_wiring sorts.Plus = WiringPart
after_wiring sorts.End = WiringEnd
after_wiring _ = Wiring

-- `END SPECIALNETS`, with which the section ends.
abbrev pub after_wiring_end : Sort → Section
after_wiring_end sorts.SpecialNets = Top
after_wiring_end sort = after_wiring sort

abbrev pub section_by : Section → Sort → Section
section_by Top first = after_top first
section_by Components first = after_entry_head Components Entry first
section_by Entry first = after_entry first
section_by EntryPart first = after_entry first
section_by Blockages first = after_entry_head Blockages BlockageKind first
section_by BlockageKind first = after_kind first
section_by Parts first = after_parts first
section_by Part first = Parts
section_by Rects first = after_rects first
section_by Placement first = after_placement first
section_by Regions first = after_entry_head Regions Region first
section_by Region first = after_region first
section_by Wiring first = after_wiring first
section_by WiringPart first = after_wiring first
section_by WiringEnd first = after_wiring_end first
section_by Passed first = Passed
section_by Ended first = Ended

-- ## what is passed over

-- A statement that is read to its `;`.
abbrev pub is_read : Sort → Bool
is_read sorts.Design = true
is_read sorts.Units = true
is_read sorts.DieArea = true
is_read sorts.Components = true
is_read sorts.Blockages = true
is_read sorts.Regions = true
is_read sorts.SpecialNets = true
is_read sorts.End = true
is_read _ = false

-- Between the sections: a section to `END` and the same word, an extension, what stands after the part of a row that is
-- read, or a statement.
abbrev pub passing_top : Sort → Sort → List ℕ → Option Passing
passing_top sorts.PassedSection last name = Some (passed.Section name)
passing_top sorts.Fills last name = Some (passed.Section name)
passing_top sorts.BeginExt last name = Some passed.Extension
passing_top sorts.Row last name = unless (the sorts.Semicolon last) passed.Statement
passing_top first last name = unless (is_read first) passed.Statement

-- In an entry of REGIONS.
abbrev pub passing_region : Sort → Option Passing
passing_region sorts.Open = None
passing_region sorts.Semicolon = None
passing_region _ = Some passed.Statement

-- What is passed over after a unit of this section, by its first and its last word.
abbrev pub passing_by : Section → Sort → Sort → List ℕ → Option Passing
passing_by Top first last name = passing_top first last name
passing_by Region first last name = passing_region first
passing_by section first last name = None

-- ## where units lead

-- What is passed over after one word more of it, which is a unit.
abbrev pub passed_on : Passing → List Token → Option Passing
passed_on passing [] = Some passing
passed_on passing (word ∷ words) = goes_on passing word

abbrev pub standing_with : Section → Option Passing → List Token → Standing
standing_with section (Some passing) unit = record { section = section; passing = passed_on passing unit }
standing_with section None unit = record {
  section = section_by section (sort_at 0 unit);
  passing = passing_by section (sort_at 0 unit) (last_sort unit) (text_at 0 unit);
}

-- After one more unit.
abbrev pub standing_after : Standing → List Token → Standing
standing_after standing unit = standing_with standing.section standing.passing unit

-- Where units lead from here.
abbrev pub standing_from : Standing → List (List Token) → Standing
standing_from standing [] = standing
standing_from standing (unit ∷ units) = standing_from (standing_after standing unit) units

-- Where the units of a text lead.
abbrev pub standing_of : List (List Token) → Standing
standing_of units = standing_from (record { section = Top; passing = None }) units

-- The section in which the next unit stands.
abbrev pub section_with : Section → Option Passing → Section
section_with section None = section
section_with section (Some passing) = Passed

abbrev pub section_in : Standing → Section
section_in standing = section_with standing.section standing.passing

abbrev pub section_of : List (List Token) → Section
section_of units = section_in (standing_of units)

-- The design has ended.
abbrev pub is_ended : Section → Bool
is_ended Ended = true
is_ended _ = false

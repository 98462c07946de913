-- The places in which units stand.
use Rattle.std.specs.Prelude.{◌≡◌, ℕ, ◌≤◌, List, [], ◌∷◌, length, slice_get, Some}
use Rattle.std.proofs.Common.{refl, arith}
use denote.Enum.Declared.{tag_of}
use Rattle.def_statements.specs.declared.section.Section.{Section}
use Rattle.def_statements.specs.contracts.section.Section.{the_type}
use Rattle.def_statements.specs.declared.section.Section.TheVariants.{Top, Components, Entry, EntryPart, Blockages, BlockageKind, Parts, Part, Rects, Placement, Regions, Region, Wiring, WiringPart, WiringEnd, Passed, Ended}

-- The place of the variant among all.
abbrev pub section_number : Section → ℕ
section_number = elim [ Top ↦ 0 | section ↦ tag_of the_type section ]

abbrev pub all_sections : List Section
all_sections =
    Top ∷ Components ∷ Entry ∷ EntryPart ∷ Blockages ∷ BlockageKind ∷ Parts ∷ Part ∷ Rects ∷ Placement ∷ Regions
    ∷ Region ∷ Wiring ∷ WiringPart ∷ WiringEnd ∷ Passed ∷ Ended ∷ []

-- Each section stands in the list at its number, and there are few.
pub listed : (section : Section) → slice_get all_sections (section_number section) ≡ Some section
listed = elim [ Top ↦ refl | _ ↦ refl ]

pub few : length all_sections ≤ 64
few = omega arith

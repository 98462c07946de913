-- The sections of a design, as the reader of its wiring takes it apart (LEF/DEF 5.8 Language Reference, "DEF Syntax").
use Rattle.std.specs.Prelude.{◌≡◌, ℕ, ◌≤◌, Bool, true, false, List, [], ◌∷◌, length, slice_get, Some}
use Rattle.std.proofs.Common.{refl, arith}
use Rattle.def_wiring.specs.declared.section.Section.{Section}
use Rattle.def_wiring.specs.declared.section.Section.TheVariants.{Top, Vias, Via, Nets, Net, Passed, Ended}

abbrev pub section_number : Section → ℕ
section_number Top = 0
section_number Vias = 1
section_number Via = 2
section_number Nets = 3
section_number Net = 4
section_number Passed = 5
section_number Ended = 6

abbrev pub all_sections : List Section
all_sections = Top ∷ Vias ∷ Via ∷ Nets ∷ Net ∷ Passed ∷ Ended ∷ []

-- The design has ended.
abbrev pub is_ended : Section → Bool
is_ended Ended = true
is_ended _ = false

-- Each section stands in the list at its number, and there are few.
pub listed : (section : Section) → slice_get all_sections (section_number section) ≡ Some section
listed Top = refl
listed Vias = refl
listed Via = refl
listed Nets = refl
listed Net = refl
listed Passed = refl
listed Ended = refl

pub few : length all_sections ≤ 64
few = omega arith

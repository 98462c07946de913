-- The sections of a LEF library, as the reader of its blocks takes it apart.
use Rattle.std.specs.Prelude.{◌≡◌, ℕ, ◌≤◌, Bool, true, false, List, [], ◌∷◌, length, slice_get, Some}
use Rattle.std.proofs.Common.{refl, arith}
use Rattle.macro_blocks.specs.declared.section.Section.{Section}
use Rattle.macro_blocks.specs.declared.section.Section.TheVariants.{Top, Macro, Pin, Supplied, Port, Layered, Unfit, Passed, Ended}

abbrev pub section_number : Section → ℕ
section_number Top = 0
section_number Macro = 1
section_number Pin = 2
section_number Supplied = 3
section_number Port = 4
section_number Layered = 5
section_number Unfit = 6
section_number Passed = 7
section_number Ended = 8

abbrev pub all_sections : List Section
all_sections = Top ∷ Macro ∷ Pin ∷ Supplied ∷ Port ∷ Layered ∷ Unfit ∷ Passed ∷ Ended ∷ []

-- The library has ended.
abbrev pub is_ended : Section → Bool
is_ended Ended = true
is_ended _ = false

-- Each section stands in the list at its number, and there are few.
pub listed : (section : Section) → slice_get all_sections (section_number section) ≡ Some section
listed Top = refl
listed Macro = refl
listed Pin = refl
listed Supplied = refl
listed Port = refl
listed Layered = refl
listed Unfit = refl
listed Passed = refl
listed Ended = refl

pub few : length all_sections ≤ 64
few = omega arith

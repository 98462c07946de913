-- What may follow: a command, or one word of a command that is passed over.
use Rattle.std.specs.Prelude.{◌≡◌, ℕ, ◌≤◌, Bool, true, false, List, [], ◌∷◌, length, slice_get, Some}
use Rattle.std.proofs.Common.{refl, arith}
use Rattle.pdn_script.specs.declared.section.Section.{Section}
use Rattle.pdn_script.specs.declared.section.Section.TheVariants.{Commands, Passing}

abbrev pub section_number : Section → ℕ
section_number Commands = 0
section_number Passing = 1

abbrev pub all_sections : List Section
all_sections = Commands ∷ Passing ∷ []

abbrev pub section_by : Bool → Section
section_by true = Passing
section_by false = Commands

-- Each section stands in the list at its number, and there are few.
pub listed : (section : Section) → slice_get all_sections (section_number section) ≡ Some section
listed Commands = refl
listed Passing = refl

pub few : length all_sections ≤ 64
few = omega arith

-- The one section: the same may follow everywhere.
use Rattle.std.specs.Prelude.{◌≡◌, ℕ, ◌≤◌, List, [], ◌∷◌, length, slice_get, Some}
use Rattle.std.proofs.Common.{refl, arith}
use Rattle.statements.specs.declared.section.Section.{Section}
use Rattle.statements.specs.declared.section.Section.TheVariants.{Statements}

abbrev pub section_number : Section → ℕ
section_number Statements = 0

abbrev pub all_sections : List Section
all_sections = Statements ∷ []

-- Each section stands in the list at its number, and there are few.
pub listed : (section : Section) → slice_get all_sections (section_number section) ≡ Some section
listed Statements = refl

pub few : length all_sections ≤ 64
few = omega arith

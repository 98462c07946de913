-- The one section: the same may follow everywhere.
use Rattle.std.specs.Prelude.{◌≡◌, ℕ, ◌≤◌, List, [], ◌∷◌, length, slice_get, Some}
use Rattle.std.proofs.Common.{refl, arith}
use Rattle.wave_file.specs.declared.section.Section.{Section}
use Rattle.wave_file.specs.declared.section.Section.TheVariants.{Lines}

abbrev pub section_number : Section → ℕ
section_number Lines = 0

abbrev pub all_sections : List Section
all_sections = Lines ∷ []

-- Each section stands in the list at its number, and there are few.
pub listed : (section : Section) → slice_get all_sections (section_number section) ≡ Some section
listed Lines = refl

pub few : length all_sections ≤ 64
few = omega arith

-- What may follow: the first line, a line for each node, the line `end`, empty lines. How many lines there were
-- decides.
use Rattle.std.specs.Prelude.{◌≡◌, ℕ, ◌-◌, ◌≤◌, ◌==◌, nat_le, List, [], ◌∷◌, length, slice_get, Some, if◌then◌else◌}
use Rattle.std.proofs.Common.{refl, arith}
use Rattle.certificate_file.specs.declared.section.Section.{Section}
use Rattle.certificate_file.specs.declared.section.Section.TheVariants.{Head, Row, Close, Ended}

abbrev pub section_number : Section → ℕ
section_number Head = 0
section_number Row = 1
section_number Close = 2
section_number Ended = 3

abbrev pub all_sections : List Section
all_sections = Head ∷ Row ∷ Close ∷ Ended ∷ []

-- The section after so many lines of the certificate of so many nodes.
abbrev pub section_after : ℕ → ℕ → Section
section_after nodes lines =
    if lines == 0 then Head else if nat_le lines nodes then Row else if lines - 1 == nodes then Close else Ended

-- Each section stands in the list at its number, and there are few.
pub listed : (section : Section) → slice_get all_sections (section_number section) ≡ Some section
listed Head = refl
listed Row = refl
listed Close = refl
listed Ended = refl

pub few : length all_sections ≤ 64
few = omega arith

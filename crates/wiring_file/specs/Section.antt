-- The places in which units stand.
use Rattle.std.specs.Prelude.{◌≡◌, ℕ, ◌≤◌, List, [], ◌∷◌, length, slice_get, Some}
use Rattle.std.proofs.Common.{refl, arith}
use Rattle.wiring_file.specs.declared.section.Section.{Section}
use Rattle.wiring_file.specs.declared.section.Section.TheVariants.{Version, DividerChar, BusBitChars, Design, Units, Die, ViasHead, Vias, NetsHead, Nets, First, Line, Next, DesignEnd, Ended}

abbrev pub section_number : Section → ℕ
section_number Version = 0
section_number DividerChar = 1
section_number BusBitChars = 2
section_number Design = 3
section_number Units = 4
section_number Die = 5
section_number ViasHead = 6
section_number Vias = 7
section_number NetsHead = 8
section_number Nets = 9
section_number First = 10
section_number Line = 11
section_number Next = 12
section_number DesignEnd = 13
section_number Ended = 14

abbrev pub all_sections : List Section
all_sections =
    Version ∷ DividerChar ∷ BusBitChars ∷ Design ∷ Units ∷ Die ∷ ViasHead ∷ Vias ∷ NetsHead ∷ Nets
    ∷ First ∷ Line ∷ Next ∷ DesignEnd ∷ Ended ∷ []

-- Each section stands in the list at its number, and there are few.
pub listed : (section : Section) → slice_get all_sections (section_number section) ≡ Some section
listed Version = refl
listed DividerChar = refl
listed BusBitChars = refl
listed Design = refl
listed Units = refl
listed Die = refl
listed ViasHead = refl
listed Vias = refl
listed NetsHead = refl
listed Nets = refl
listed First = refl
listed Line = refl
listed Next = refl
listed DesignEnd = refl
listed Ended = refl

pub few : length all_sections ≤ 64
few = omega arith

-- The faults of the text of cells: a length that is refused, a name that stands again, an end of another section.
use Rattle.std.specs.Prelude.{◌≡◌, ◌≢◌, ℕ, List, [], ◌∷◌, map, Contains, Err}
use Rattle.lef_cells.specs.declared.error.CellsKind.{CellsKind}
use Rattle.lef_cells.specs.declared.error.CellsKind.TheVariants as kinds
use Rattle.lef_cells.specs.declared.section.Section.{Section}
use Rattle.lef_cells.specs.declared.section.Section.TheVariants as places
use Rattle.lef_cells.specs.declared.sort.Sort.{Sort}
use Rattle.lef_cells.specs.declared.sort.Sort.TheVariants.{Site, Macro, End, Size}
use Rattle.lef_cells.specs.Sort.{sort_of}
use Rattle.lef_cells.specs.Section.{standing_of}
use Rattle.lef_cells.specs.Rule.{is_head, sections, name_of}
use Rattle.lef_cells.specs.Number.{length}
use Rattle.number_place.specs.declared.place.Refused.{Refused}
use Rattle.number_place.specs.declared.place.Refused.TheVariants.{Syntax, Number}
use Rattle.number_place.specs.Place.{IsNumberAt}
use Rattle.reading.specs.Blocks.{Block, blocks}
use Rattle.reading.specs.declared.refusal.Found.{Found}
use Rattle.reading.specs.Word.{Token}

-- The kind of a number that is refused.
abbrev pub refused_kind : Refused → CellsKind
refused_kind Syntax = kinds.Syntax
refused_kind (Number error) = kinds.Number error

-- The text is refused as a length, and so this is its kind.
abbrev pub LengthFault : List ℕ → CellsKind → Type 0
LengthFault text kind = (refused : Refused) × IsNumberAt length text (Err refused) × (kind ≡ refused_kind refused)

-- The names of the sections that begin with this word.
abbrev pub names_of : Sort → List (List Token) → List (List ℕ)
names_of word units = map name_of (sections word units)

-- The name stands again: an earlier section that began with the same word has it. Sites and macros have name spaces of
-- their own.
abbrev pub Again : Sort → List (List Token) → List ℕ → CellsKind → Type 0
Again word units name kind = (kind ≡ kinds.Twice) × Contains (names_of word units) name

-- The name of the last of these sections.
abbrev pub last_name : List (Block Token) → List ℕ
last_name [] = []
last_name (section ∷ []) = name_of section
last_name (section ∷ next ∷ others) = last_name (next ∷ others)

-- The name after END is not that of the section that is open, the last one.
abbrev pub OtherName : List (List Token) → List ℕ → CellsKind → Type 0
OtherName units name kind = (kind ≡ kinds.Syntax) × (name ≢ last_name (blocks is_head units))

-- Why the second word is refused after a first word of this sort, in this section: a name that stands again, the name
-- after END, the width of a SIZE.
abbrev pub SecondFault : Sort → Section → List (List Token) → List ℕ → CellsKind → Type 0
SecondFault Site places.Top units text = Again Site units text
SecondFault Macro places.Top units text = Again Macro units text
SecondFault End places.SizedSite units text = OtherName units text
SecondFault End places.SizedMacro units text = OtherName units text
SecondFault Size section units text = LengthFault text
SecondFault _ section units text = λ kind. ⊥

-- The fault that the last of a unit's words so far shows, at that word. The fourth word is the height of a SIZE.
abbrev pub fault : List (List Token) → List Token → Found CellsKind → Type 0
fault units (first ∷ second ∷ []) found =
    (found.at ≡ 1) × SecondFault (sort_of first) (standing_of units).section units second.text found.kind
fault units (size ∷ width ∷ by ∷ height ∷ []) found = (found.at ≡ 3) × LengthFault height.text found.kind
fault units _ found = ⊥

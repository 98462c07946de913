-- What the reader holds after whole units.
use Rattle.std.specs.Prelude.{◌≡◌, ℕ, Bool, List, [], All, Option, Some, None}
use Rattle.entry_list.specs.InTurn.{InTurn}
use Rattle.named_entries.specs.Named.{HoldsNamed}
use Rattle.def_wiring.specs.declared.act.Act.{Act}
use Rattle.def_wiring.specs.declared.error.Late.{Late}
use Rattle.def_wiring.specs.declared.held.Held.{Held}
use Rattle.def_wiring.specs.declared.held.Sections.{Sections}
use Rattle.def_wiring.specs.declared.standing.Standing.{Standing}
use Rattle.def_wiring.specs.Fault.{NoneLate, IsFirstLate}
use Rattle.def_wiring.specs.Limits.{IsKnown, NetKnown}
use Rattle.def_wiring.specs.Record.{Asked, Said, SaidNet, SaysVia, SaysSegment, SaysPlace, SaysNet, said_name, said_by, noted, said_unit, known_vias, heard_of}
use Rattle.def_wiring.specs.Standing.{section_in}
use Rattle.reading.specs.Word.{Token}

-- The first of the words of the entry that shows a fault, if one does.
abbrev pub IsLate : List (List ℕ) → List Asked → Option Late → Type 0
IsLate vias asked None = NoneLate vias asked
IsLate vias asked (Some late) = IsFirstLate vias asked late

-- What holds as long as none has shown one.
abbrev pub WhileFine : Option Late → Type 0 → Type 0
WhileFine None holds = holds
WhileFine (Some late) holds = Unit {0}

abbrev pub net_said : SaidNet → List ℕ
net_said said = said.name

-- What is held is what is said.
pub record Tells (said : Said) (held : Sections) : Type 0 where
  pub via_names : held.via_names ≡ said.via_names
  pub net_names : held.net_names ≡ said.net_names
  pub vias : HoldsNamed SaysVia said_name said.vias held.vias
  pub nets : HoldsNamed SaysNet net_said said.nets held.nets
  pub late : IsLate (known_vias said) said.asked held.late
  pub segments : WhileFine held.late (InTurn SaysSegment said.segments held.segments.items)
  pub places : WhileFine held.late (InTurn SaysPlace said.places held.places.items)
  pub known : All (IsKnown held.vias.names) held.places.items
  pub nets_known : All (NetKnown held.vias.names) held.nets.entries

pub record Holds (units : List (List Token)) (held : Held) : Type 0 where
  pub standing : held.standing ≡ (heard_of units).standing
  pub said : Tells (heard_of units).said held.said

-- What was held leads to what is held after a word that does this.
abbrev pub Leads : Act → Standing → Token → Sections → Sections → Type 0
Leads act standing word old new = (said : Said) → Tells said old → Tells (said_by act standing word said) new

-- The same, for the words that are kept until it shows that the entry counts.
abbrev pub Notes : Option Bool → Asked → Sections → Sections → Type 0
Notes power asked old new = (said : Said) → Tells said old → Tells (noted power asked said) new

-- What was held leads to what is held after a unit.
abbrev pub Unites : Standing → List Token → Sections → Sections → Type 0
Unites standing unit old new = (said : Said) → Tells said old → Tells (said_unit (section_in standing) standing unit said) new

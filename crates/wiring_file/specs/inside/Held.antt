-- What the reader holds after whole units.
use Rattle.std.specs.Prelude.{◌≡◌, ◌≤◌, ◌^◌, ◌⊎◌, ◌∷◌, ◌++◌, [], Bool, true, false, ℤ, pos, List, length, map, filter}
use Rattle.entry_list.specs.InTurn.{InTurn}
use Rattle.reading.specs.declared.word.Heard.{Heard}
use Rattle.reading.specs.Grammar.{AreHeard, IsTaken}
use Rattle.reading.specs.Word.{Token, heard_token}
use Rattle.wiring_file.specs.declared.held.Held.{Held}
use Rattle.wiring_file.specs.declared.section.Section.{Section}
use Rattle.wiring_file.specs.declared.section.Section.TheVariants.{Version, DividerChar, BusBitChars, Design, Units, Die, ViasHead, Vias, NetsHead, Nets, First, Line, Next, Ended}
use Rattle.wiring_file.specs.Fault.{HasCount}
use Rattle.wiring_file.specs.Format.{format}
use Rattle.wiring_file.specs.Standing.{standing, placed}
use Rattle.wiring_file.specs.Record.{is_via, is_wire, is_stacked, SaysVia, SaysWire, SaysPlace}
use Rattle.wiring_file.specs.inside.Value.{says}

-- Where the count of the open list is known: in the lists, and in the wiring of a net.
abbrev pub is_counted : Section → Bool
is_counted Vias = true
is_counted Nets = true
is_counted First = true
is_counted Line = true
is_counted Next = true
is_counted _ = false

pub record Holds (units : List (List Token)) (held : Held) : Type 0 where
  pub section : held.section ≡ (standing units).section
  pub net : held.net ≡ (standing units).net
  pub stacked : held.placed ≡ (standing units).placed
  pub count : is_counted (standing units).section ≡ true → HasCount (standing units) (pos held.count)
  pub entries : held.entries ≡ (standing units).entries
  pub vias : InTurn SaysVia (filter is_via (placed units)) held.vias.items
  pub wires : InTurn SaysWire (filter is_wire (placed units)) held.wires.items
  pub places : InTurn SaysPlace (filter is_stacked (placed units)) held.places.items

-- A whole unit, whose words were heard, is taken with what this unit says.
abbrev pub Takes : Held → List (Heard ℤ) → Held → Type 0
Takes old unit new = (units : List (List Token)) → length units ≤ 2 ^ 63 → Holds units old →
    IsTaken format units (map heard_token unit) → AreHeard (says (standing units).section) [] unit →
    Holds (units ++ map heard_token unit ∷ []) new

-- The section after one in which each unit leads to the next.
abbrev pub next_section : Section → Section
next_section Version = DividerChar
next_section DividerChar = BusBitChars
next_section BusBitChars = Design
next_section Design = Units
next_section Units = Die
next_section Die = ViasHead
next_section _ = Ended

-- The head of a list stands in this section, and its entries in that one.
abbrev pub counts_list : Section → Section → Type 0
counts_list head list = ((head ≡ ViasHead) × (list ≡ Vias)) ⊎ ((head ≡ NetsHead) × (list ≡ Nets))

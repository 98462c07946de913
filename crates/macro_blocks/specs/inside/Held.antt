-- What the reader holds after whole units.
use Rattle.std.specs.Prelude.{◌≡◌, Bool, true, false, ℤ, List, [], ◌∷◌, Option, Some, None, map}
use Rattle.entry_list.specs.InTurn.{InTurn}
use Rattle.macro_blocks.specs.declared.act.Act.{Act}
use Rattle.macro_blocks.specs.declared.act.Act.TheVariants as acts
use Rattle.macro_blocks.specs.declared.held.Held.{Held}
use Rattle.macro_blocks.specs.declared.held.Sections.{Sections}
use Rattle.macro_blocks.specs.declared.number.Bad.{Bad}
use Rattle.macro_blocks.specs.declared.number.Corners.{Corners}
use Rattle.macro_blocks.specs.declared.record.BlockRect.{BlockRect}
use Rattle.macro_blocks.specs.declared.section.Section.{Section}
use Rattle.macro_blocks.specs.declared.section.Section.TheVariants.{Pin, Supplied, Port, Layered, Unfit}
use Rattle.macro_blocks.specs.declared.sort.Sort.TheVariants.{Semicolon}
use Rattle.macro_blocks.specs.declared.standing.Standing.{Standing}
use Rattle.macro_blocks.specs.declared.value.Value.{Value}
use Rattle.macro_blocks.specs.Fault.{AreCoordinates, IsFirstBad}
use Rattle.macro_blocks.specs.Number.{IsCoordinate}
use Rattle.macro_blocks.specs.Record.{Said, Shape, SaysMacro, SaysPin, SaysRect, said_by, heard_of}
use Rattle.macro_blocks.specs.Sort.{sort_of, the}
use Rattle.macro_blocks.specs.Standing.{is_known}
use Rattle.macro_blocks.specs.inside.Value.{coordinate_in, ArePlaces, AreWhole}
use Rattle.reading.specs.declared.word.Heard.{Heard}
use Rattle.reading.specs.Word.{Token, heard_token}

-- The first of the numbers that is refused, if one is.
abbrev pub IsBad : List Token → Option Bad → Type 0
IsBad numbers None = AreCoordinates numbers
IsBad numbers (Some bad) = IsFirstBad numbers bad

-- The rectangles of these shapes, where none of their numbers is refused.
abbrev pub AreDrawn : List Shape → Option Bad → List BlockRect → Type 0
AreDrawn shapes None rects = InTurn SaysRect shapes rects
AreDrawn shapes (Some bad) rects = Unit {0}

-- What is held is what is said.
pub record Tells (said : Said) (held : Sections) : Type 0 where
  pub macros : InTurn SaysMacro said.macros held.macros.items
  pub pins : InTurn SaysPin said.pins held.pins.items
  pub obstructions : InTurn SaysRect said.obstructions held.obstructions.items
  pub layer : held.layer ≡ said.layer
  pub numbers : IsBad said.numbers held.bad
  pub rects : AreDrawn said.shapes held.bad held.rects.items

-- A pin or obstructions are open.
abbrev pub is_inside : Section → Bool
is_inside Pin = true
is_inside Supplied = true
is_inside Port = true
is_inside Layered = true
is_inside Unfit = true
is_inside _ = false

-- Where it is known what the words of a pin or obstructions are for, all their numbers are coordinates.
abbrev pub AreFine : Standing → List Token → Type 0
AreFine there numbers = is_inside there.section ≡ true → is_known there.pin ≡ true → AreCoordinates numbers

pub record Holds (units : List (List Token)) (held : Held) : Type 0 where
  pub standing : held.standing ≡ (heard_of units).standing
  pub said : Tells (heard_of units).said held.said
  pub fine : AreFine (heard_of units).standing (heard_of units).said.numbers

-- What is known of a unit that does this: of a RECT what its words say, and of the end of a pin or of obstructions that all
-- numbers in them are coordinates.
abbrev pub IsReady : Act → List (Heard Value) → Said → Type 0
IsReady acts.Draws unit said = ArePlaces unit × AreWhole unit
IsReady (acts.EndsPin power) unit said = AreCoordinates said.numbers
IsReady acts.EndsObstructions unit said = AreCoordinates said.numbers
IsReady _ unit said = Unit {0}

-- What was held leads to what is held after a unit that does this.
abbrev pub Leads : Act → Standing → List (Heard Value) → Sections → Sections → Type 0
Leads act standing unit old new =
    (said : Said) → Tells said old → IsReady act unit said → Tells (said_by act standing (map heard_token unit) said) new

-- A coordinate that a word says.
abbrev pub IsSaid : Heard Value → ℤ → Type 0
IsSaid heard value = IsCoordinate (heard_token heard) (coordinate_in heard.value) → IsCoordinate (heard_token heard) value

-- The corners of a whole RECT.
abbrev pub AreCorners : List (Heard Value) → Corners → Type 0
AreCorners (first ∷ a ∷ b ∷ c ∷ d ∷ stop ∷ []) corners =
    (the Semicolon (sort_of (heard_token stop)) ≡ true) × IsSaid a corners.one.x × IsSaid b corners.one.y
    × IsSaid c corners.other.x × IsSaid d corners.other.y
AreCorners _ corners = ⊥

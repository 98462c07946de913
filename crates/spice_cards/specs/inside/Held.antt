-- What the reader holds after whole units, and what one more card adds to it.
use Rattle.std.specs.Prelude.{◌≡◌, ℕ, ℤ, List, [], ◌∷◌, ◌++◌, Option, None, Some}
use Rattle.grid_net.specs.declared.part.Load.{Load as NetLoad}
use Rattle.name_table.specs.Numbering.{TakesName, AreDistinct}
use Rattle.reading.specs.Word.{Token}
use Rattle.spice_cards.specs.declared.held.Held.{Held}
use Rattle.spice_cards.specs.declared.record.Capacitor.{Capacitor as ReadCapacitor}
use Rattle.spice_cards.specs.declared.record.Cards.{Cards}
use Rattle.spice_cards.specs.Card.{Card, CapacitorCard, capacitor_in, is_ground}
use Rattle.spice_cards.specs.Section.{section_of}
use Rattle.spice_cards.specs.Record.{Part, short_part, pad_part, load_part, HasNumber, SaysCard, SaysCapacitor, SaysCards, nodes_of, but_ground, LoadsNode}
use Rattle.node_names.specs.Folding.{folded}

pub record Holds (units : List (List Token)) (held : Held) : Type 0 where
  pub cards : SaysCards units held.cards
  pub section : held.section ≡ section_of units

-- The names after these were asked for, one after the other.
abbrev pub TakesNames : List (List ℕ) → List (List ℕ) → List (List ℕ) → Type 0
TakesNames old [] new = new ≡ old
TakesNames old (name ∷ names) new = (next : List (List ℕ)) × TakesName old next name × TakesNames next names new

-- The lists after a part was added to them.
pub record AddsPart (part : Part) (old new : Cards) : Type 0 where
  pub resistors : new.resistors.items ≡ old.resistors.items ++ part.resistors
  pub shorts : new.shorts.items ≡ old.shorts.items ++ part.shorts
  pub pads : new.pads.items ≡ old.pads.items ++ part.pads
  pub loads : new.loads.items ≡ old.loads.items ++ part.loads

-- The capacitors after a card was taken: one more, if it is one.
abbrev pub AddsCapacitor : Option CapacitorCard → List ReadCapacitor → List ReadCapacitor → Type 0
AddsCapacitor None old new = new ≡ old
AddsCapacitor (Some card) old new = (read : ReadCapacitor) × SaysCapacitor card read × (new ≡ old ++ read ∷ [])

-- A card was taken.
pub record Adds (card : Card) (old new : Cards) : Type 0 where
  pub part : Part
  pub says : SaysCard new.names card part
  pub names : TakesNames old.names (nodes_of card) new.names
  pub distinct : AreDistinct old.names → AreDistinct new.names
  pub lists : AddsPart part old new
  pub caps : AddsCapacitor (capacitor_in card) old.caps.items new.caps.items

-- A unit was taken, which is this card or none.
abbrev pub AddsUnit : Option Card → Cards → Cards → Type 0
AddsUnit None old new = new ≡ old
AddsUnit (Some card) old new = Adds card old new

-- A pad of a node was taken.
pub record AddsPad (name : List ℕ) (v : ℤ) (old new : Cards) : Type 0 where
  pub node : ℕ
  pub says : HasNumber new.names name node
  pub names : TakesName old.names new.names (folded name)
  pub distinct : AreDistinct new.names
  pub lists : AddsPart (pad_part node v) old new
  pub caps : new.caps.items ≡ old.caps.items

-- A short between two nodes was taken.
pub record AddsShort (a b : List ℕ) (old new : Cards) : Type 0 where
  pub m : ℕ
  pub n : ℕ
  pub first : HasNumber new.names a m
  pub second : HasNumber new.names b n
  pub names : TakesNames old.names (folded a ∷ folded b ∷ []) new.names
  pub distinct : AreDistinct new.names
  pub lists : AddsPart (short_part m n) old new
  pub caps : new.caps.items ≡ old.caps.items

-- The load of a node was taken.
pub record AddsLoad (name : List ℕ) (low high : ℤ) (old new : Cards) : Type 0 where
  pub loads : List NetLoad
  pub says : LoadsNode (is_ground name) new.names name low high loads
  pub names : TakesNames old.names (but_ground name) new.names
  pub distinct : AreDistinct old.names → AreDistinct new.names
  pub lists : AddsPart (load_part loads) old new
  pub caps : new.caps.items ≡ old.caps.items

-- What the cards of a netlist say.
use Rattle.std.specs.Prelude.{◌≡◌, ◌↔◌, ◌≤ℤ◌, ℕ, ◌<◌, ℤ, pos, neg_ℤ, Bool, true, false, List, [], ◌∷◌, ◌++◌, flat_map, length, slice_get, All, Contains, Option, None, Some, Ok, if◌then◌else◌}
use Rattle.grid_net.specs.declared.part.Resistor.{Resistor as NetResistor}
use Rattle.grid_net.specs.declared.part.Pad.{Pad as NetPad}
use Rattle.grid_net.specs.declared.part.Load.{Load as NetLoad}
use Rattle.entry_list.specs.InTurn.{InTurn}
use Rattle.name_table.specs.Numbering.{AreDistinct}
use Rattle.node_names.specs.Folding.{folded}
use Rattle.number_place.specs.Place.{IsNumberAt}
use Rattle.reading.specs.Word.{Token}
use Rattle.spice_cards.specs.declared.record.Capacitor.{Capacitor as ReadCapacitor}
use Rattle.spice_cards.specs.declared.record.Cards.{Cards}
use Rattle.spice_cards.specs.Card.{Card, Resistor, Source, Load, Capacitor, CapacitorCard, Ends, is_ground, cards_of, capacitors_of}
use Rattle.spice_cards.specs.Fault.{is_zero}
use Rattle.spice_cards.specs.Number.{ohms, volts, amperes, farads}

-- The node of this name has the number.
abbrev pub HasNumber : List (List ℕ) → List ℕ → ℕ → Type 0
HasNumber names name number = slice_get names number ≡ Some (folded name)

-- What one card adds to the lists of a network.
pub record Part : Type 0 where
  pub resistors : List NetResistor
  pub shorts : List (ℕ × ℕ)
  pub pads : List NetPad
  pub loads : List NetLoad

abbrev pub resistor_part : ℕ → ℕ → ℤ → Part
resistor_part a b value = record { resistors = record { a = a; b = b; ohms = value } ∷ []; shorts = []; pads = []; loads = [] }

abbrev pub short_part : ℕ → ℕ → Part
short_part a b = record { resistors = []; shorts = (a, b) ∷ []; pads = []; loads = [] }

abbrev pub pad_part : ℕ → ℤ → Part
pad_part node value = record { resistors = []; shorts = []; pads = record { node = node; volts = value } ∷ []; loads = [] }

abbrev pub load_part : List NetLoad → Part
load_part loads = record { resistors = []; shorts = []; pads = []; loads = loads }

-- Nothing that a network has.
abbrev pub no_part : Part
no_part = record { resistors = []; shorts = []; pads = []; loads = [] }

-- `Rname a b OHMS`: a resistor, and a short where the value is 0.
abbrev pub SaysResistor : List (List ℕ) → List ℕ → List ℕ → List ℕ → Part → Type 0
SaysResistor names a b value part =
    (v : ℤ) × (m : ℕ) × (n : ℕ) × IsNumberAt ohms value (Ok v) × HasNumber names a m × HasNumber names b n
    × (part ≡ (if is_zero v then short_part m n else resistor_part m n v))

-- `Vname a b VOLTS`: with `0` as the second node a pad of the first at this value, with `0` as the first node a pad of the second at minus
-- the value, and of value 0 between two other nodes a short. Between `0` and `0` it is a pad of `0`.
abbrev pub SaysSource : Bool → Bool → List (List ℕ) → List ℕ → List ℕ → ℤ → Part → Type 0
SaysSource true true names a b v part = (n : ℕ) × HasNumber names a n × (part ≡ pad_part n v)
SaysSource true false names a b v part = (n : ℕ) × HasNumber names b n × (part ≡ pad_part n (neg_ℤ v))
SaysSource false true names a b v part = (n : ℕ) × HasNumber names a n × (part ≡ pad_part n v)
SaysSource false false names a b v part =
    (m : ℕ) × (n : ℕ) × HasNumber names a m × HasNumber names b n × (v ≡ pos 0) × (part ≡ short_part m n)

-- The range of a load: both ends are its value, or those of the range line, between which the value lies.
abbrev pub IsRange : Option Ends → ℤ → ℤ → ℤ → Type 0
IsRange None v low high = (low ≡ v) × (high ≡ v)
IsRange (Some ends) v low high =
    IsNumberAt amperes ends.low (Ok low) × IsNumberAt amperes ends.high (Ok high) × (low ≤ℤ v) × (v ≤ℤ high)

-- The load at a node, and none at `0`.
abbrev pub LoadsNode : Bool → List (List ℕ) → List ℕ → ℤ → ℤ → List NetLoad → Type 0
LoadsNode true names name low high loads = loads ≡ []
LoadsNode false names name low high loads =
    (n : ℕ) × HasNumber names name n × (loads ≡ record { node = n; low = low; high = high } ∷ [])

-- `Iname a b AMPERES`: the current is drawn out of the first node and given to the second, where its range goes from minus the high end to
-- minus the low end.
abbrev pub SaysLoad : List (List ℕ) → List ℕ → List ℕ → ℤ → ℤ → Part → Type 0
SaysLoad names a b low high part =
    (first : List NetLoad) × (second : List NetLoad) × LoadsNode (is_ground a) names a low high first
    × LoadsNode (is_ground b) names b (neg_ℤ high) (neg_ℤ low) second × (part ≡ load_part (first ++ second))

-- What a card says of the network, where the nodes have these names. A capacitor says nothing of it.
abbrev pub SaysCard : List (List ℕ) → Card → Part → Type 0
SaysCard names (Resistor a b value) part = SaysResistor names a b value part
SaysCard names (Source a b value) part =
    (v : ℤ) × IsNumberAt volts value (Ok v) × SaysSource (is_ground a) (is_ground b) names a b v part
SaysCard names (Load a b value range) part =
    (v : ℤ) × (low : ℤ) × (high : ℤ) × IsNumberAt amperes value (Ok v) × IsRange range v low high
    × SaysLoad names a b low high part
SaysCard names (Capacitor a b value) part = part ≡ no_part

-- The name, where it is not `0`.
abbrev pub but_ground : List ℕ → List (List ℕ)
but_ground name = if is_ground name then [] else (folded name ∷ [])

-- The nodes of a source: both, where both are `0` or none is, and else the one that is not `0`.
abbrev pub source_nodes : Bool → Bool → List ℕ → List ℕ → List (List ℕ)
source_nodes true true a b = folded a ∷ []
source_nodes true false a b = folded b ∷ []
source_nodes false true a b = folded a ∷ []
source_nodes false false a b = folded a ∷ folded b ∷ []

-- The names of the nodes that a card has. `0` is a node where a resistor names it or a source stands between `0` and `0`.
-- A capacitor makes no nodes.
abbrev pub nodes_of : Card → List (List ℕ)
nodes_of (Resistor a b value) = folded a ∷ folded b ∷ []
nodes_of (Source a b value) = source_nodes (is_ground a) (is_ground b) a b
nodes_of (Load a b value range) = but_ground a ++ but_ground b
nodes_of (Capacitor a b value) = []

-- `Cname a b FARADS`: a capacitor between two names, which are kept as they stand.
pub record SaysCapacitor (card : CapacitorCard) (read : ReadCapacitor) : Type 0 where
  pub a : read.a.now ≡ card.a
  pub b : read.b.now ≡ card.b
  pub farads : IsNumberAt farads card.value (Ok read.farads)

-- What the cards among these units say, in their order: each says one part, and the lists are those of the parts, one after the other. The
-- names are those of the nodes, each once. The capacitors are those of their cards.
pub record SaysCards (units : List (List Token)) (cards : Cards) : Type 0 where
  pub parts : List Part
  pub says : InTurn (SaysCard cards.names) (cards_of units) parts
  pub distinct : AreDistinct cards.names
  pub nodes : (name : List ℕ) → Contains cards.names name ↔ Contains (flat_map nodes_of (cards_of units)) name
  pub resistors : cards.resistors.items ≡ flat_map (λ part. part.resistors) parts
  pub shorts : cards.shorts.items ≡ flat_map (λ part. part.shorts) parts
  pub pads : cards.pads.items ≡ flat_map (λ part. part.pads) parts
  pub loads : cards.loads.items ≡ flat_map (λ part. part.loads) parts
  pub caps : InTurn SaysCapacitor (capacitors_of units) cards.caps.items

-- Each number of the cards is that of a name.
pub record AreNumbered (cards : Cards) : Type 0 where
  pub resistors : All (λ r. (r.a < length cards.names) × (r.b < length cards.names)) cards.resistors.items
  pub shorts : All (λ s. (s.0 < length cards.names) × (s.1 < length cards.names)) cards.shorts.items
  pub pads : All (λ p. p.node < length cards.names) cards.pads.items
  pub loads : All (λ l. l.node < length cards.names) cards.loads.items

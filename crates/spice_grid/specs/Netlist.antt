-- Netlists whole: the network of a text's cards, or its one refusal.
use Rattle.std.specs.Prelude.{◌≡◌, ◌↔◌, ℕ, ◌<◌, List, ◌++◌, flat_map, length, All, Contains, Option, None, Result, Ok, Err}
use Rattle.entry_list.specs.InTurn.{InTurn}
use Rattle.grid_net.specs.declared.part.Resistor.{Resistor}
use Rattle.grid_net.specs.declared.part.Pad.{Pad}
use Rattle.grid_net.specs.declared.part.Load.{Load}
use Rattle.grid_net.specs.declared.error.NetError.{NetError}
use Rattle.grid_net.specs.Network.{Network}
use Rattle.grid_net.specs.Building.{network_of, first_net_refusal}
use Rattle.name_table.specs.ByteOrder.{IsInByteOrder}
use Rattle.outside.specs.declared.place.Place.{Place}
use Rattle.reading.specs.Word.{Token}
use Rattle.spice_cards.specs.declared.error.CardsKind.{CardsKind}
use Rattle.spice_cards.specs.declared.error.CardsKind.TheVariants as cards
use Rattle.spice_cards.specs.Card.{cards_of}
use Rattle.spice_cards.specs.Format.{IsNetlist, IsRefusedNetlist}
use Rattle.spice_cards.specs.Record.{Part, SaysCard, nodes_of}
use Rattle.spice_grid.specs.declared.error.NetRefusal.{NetRefusal}
use Rattle.spice_grid.specs.declared.error.SpiceError.{SpiceError}
use Rattle.spice_grid.specs.declared.error.SpiceKind.{SpiceKind}
use Rattle.spice_grid.specs.declared.error.SpiceKind.TheVariants.{Syntax, OutOfProfileCard, FloatingSource, Number, OutOfRange, Net, Want}
use Rattle.spice_grid.specs.declared.named.Named.{Named}
use Rattle.spice_grid.specs.Caps.{AreCapacitors, EndAmong, HaveCapacitance}
use Rattle.spice_grid.specs.Named.{ground_pads, IsRefusedFor}

-- What the cards among these units say, where the number of a node is the place of its name in byte order: each card says
-- one part, and the names are those of the nodes.
pub record SaysInOrder (units : List (List Token)) (names : List (List ℕ)) (parts : List Part) : Type 0 where
  pub says : InTurn (SaysCard names) (cards_of units) parts
  pub in_byte_order : IsInByteOrder names
  pub nodes : (name : List ℕ) → Contains names name ↔ Contains (flat_map nodes_of (cards_of units)) name

-- The resistors, the shorts and the loads that the cards give, in the order of the cards.
abbrev pub resistors_of : List Part → List Resistor
resistors_of parts = flat_map (λ part. part.resistors) parts

abbrev pub shorts_of : List Part → List (ℕ × ℕ)
shorts_of parts = flat_map (λ part. part.shorts) parts

abbrev pub loads_of : List Part → List Load
loads_of parts = flat_map (λ part. part.loads) parts

-- The pads that the cards give, in the order of the cards, and that of ground after them, where it is a node.
abbrev pub pads_of : List (List ℕ) → List Part → List Pad
pads_of names parts = flat_map (λ part. part.pads) parts ++ ground_pads names

-- The network of the cards, and what refuses it.
abbrev pub network_by : List (List ℕ) → List Part → Network
network_by names parts = network_of (length names) (resistors_of parts) (pads_of names parts) (loads_of parts)

abbrev pub refusal_by : List (List ℕ) → List Part → Option NetError
refusal_by names parts = first_net_refusal (length names) (resistors_of parts) (pads_of names parts) (loads_of parts)

-- The record of a netlist of these units: the names of its nodes, its network, which nothing refuses, its shorts and its
-- capacitors.
pub record IsNamedBy (units : List (List Token)) (named : Named) : Type 0 where
  pub parts : List Part
  pub order : SaysInOrder units named.names parts
  pub accepted : refusal_by named.names parts ≡ None
  pub network : named.net ≡ network_by named.names parts
  pub shorts : named.shorts ≡ shorts_of parts
  pub caps : AreCapacitors units named.names named.caps

-- What refuses the network of the cards among these units.
abbrev pub RefusesNetwork : List (List Token) → NetRefusal → Type 0
RefusesNetwork units refusal =
    (names : List (List ℕ)) × (parts : List Part) × SaysInOrder units names parts
    × IsRefusedFor names (refusal_by names parts) refusal

-- The kind of a netlist for a kind of its cards.
abbrev pub spice_kind : CardsKind → SpiceKind
spice_kind cards.Syntax = Syntax
spice_kind cards.OutOfProfileCard = OutOfProfileCard
spice_kind cards.FloatingSource = FloatingSource
spice_kind (cards.Number error) = Number error
spice_kind cards.OutOfRange = OutOfRange
spice_kind cards.Want = Want

-- The text is refused so at the word of this place.
abbrev pub RefusesWord : List ℕ → Place → CardsKind → Type 0
RefusesWord text place kind = IsRefusedNetlist text (record { place = place; kind = kind })

-- Why a text has no record: a word is refused, or the network of the whole text is; want of memory aside.
abbrev pub RefusesText : List ℕ → Place → SpiceKind → Type 0
RefusesText text place Syntax = RefusesWord text place cards.Syntax
RefusesText text place OutOfProfileCard = RefusesWord text place cards.OutOfProfileCard
RefusesText text place FloatingSource = RefusesWord text place cards.FloatingSource
RefusesText text place (Number error) = RefusesWord text place (cards.Number error)
RefusesText text place OutOfRange = RefusesWord text place cards.OutOfRange
RefusesText text place (Net refusal) = (units : List (List Token)) × IsNetlist text units × RefusesNetwork units refusal
RefusesText text place Want = Unit {0}

-- What reading a netlist gives: the record of the text's one list of units, or its one refusal.
abbrev pub ReadsNetlist : List ℕ → Result Named SpiceError → Type 0
ReadsNetlist text (Ok named) = (units : List (List Token)) × IsNetlist text units × IsNamedBy units named
ReadsNetlist text (Err error) = RefusesText text error.place error.kind

-- The kinds that stand at a word.
abbrev pub IsAtWord : SpiceKind → Type 0
IsAtWord (Net refusal) = ⊥
IsAtWord Want = ⊥
IsAtWord _ = Unit {0}

-- What each record that is read keeps: one name for each node, in byte order, shorts between nodes, and capacitors whose
-- ends are nodes, ground or nowhere, with a capacitance from 0 to 10^30.
pub record NamedKeeps (named : Named) : Type 0 where
  pub one_name_per_node : length named.names ≡ named.net.nodes
  pub in_byte_order : IsInByteOrder named.names
  pub shorts_are_nodes : All (λ s. (s.0 < named.net.nodes) × (s.1 < named.net.nodes)) named.shorts
  pub ends_among_nodes : EndAmong named.net.nodes named.caps
  pub capacitances : HaveCapacitance named.caps

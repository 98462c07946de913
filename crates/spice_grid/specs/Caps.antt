-- The capacitors of a netlist, and where their ends stand.
use Rattle.std.specs.Prelude.{◌≡◌, ⊤, ℕ, ◌<◌, true, false, List, All, Contains, Ok}
use Rattle.capacitors.specs.declared.End.{End}
use Rattle.capacitors.specs.declared.End.TheVariants.{Node, Ground, Nowhere}
use Rattle.capacitors.specs.declared.Cap.{Cap}
use Rattle.entry_list.specs.InTurn.{InTurn}
use Rattle.node_names.specs.Folding.{folded}
use Rattle.number_place.specs.Place.{IsNumberAt}
use Rattle.reading.specs.Word.{Token}
use Rattle.spice_cards.specs.declared.record.Capacitor.{Capacitor}
use Rattle.spice_cards.specs.Card.{CapacitorCard, is_ground, capacitors_of}
use Rattle.spice_cards.specs.Number.{farads, IsCapacitance}
use Rattle.spice_cards.specs.Record.{HasNumber}

-- Where the end of this name stands, where the nodes have these names: `0` is ground, also where it is a node; any other
-- name is that of a node, or of none.
abbrev pub IsEnd : List (List ℕ) → List ℕ → End → Type 0
IsEnd names name (Node number) = (is_ground name ≡ false) × HasNumber names name number
IsEnd names name Ground = is_ground name ≡ true
IsEnd names name Nowhere = (is_ground name ≡ false) × (¬ Contains names (folded name))

-- The capacitor of a card, where the nodes have these names.
pub record IsCapacitor (names : List (List ℕ)) (card : CapacitorCard) (cap : Cap) : Type 0 where
  pub a : IsEnd names card.a cap.a
  pub b : IsEnd names card.b cap.b
  pub farads : IsNumberAt farads card.value (Ok cap.farads)

-- The capacitors of a netlist of these units are those of its cards, in their order.
abbrev pub AreCapacitors : List (List Token) → List (List ℕ) → List Cap → Type 0
AreCapacitors units names caps = InTurn (IsCapacitor names) (capacitors_of units) caps

-- The capacitor as it was read, where the nodes have these names.
pub record IsNumbered (names : List (List ℕ)) (read : Capacitor) (cap : Cap) : Type 0 where
  pub a : IsEnd names read.a.now cap.a
  pub b : IsEnd names read.b.now cap.b
  pub farads : cap.farads ≡ read.farads

-- The end is at one of so many nodes, if it is at one.
abbrev pub IsAmong : ℕ → End → Type 0
IsAmong nodes (Node number) = number < nodes
IsAmong nodes Ground = ⊤
IsAmong nodes Nowhere = ⊤

-- Each end of these capacitors that is at a node is at one of so many.
abbrev pub EndAmong : ℕ → List Cap → Type 0
EndAmong nodes caps = All (λ cap. IsAmong nodes cap.a × IsAmong nodes cap.b) caps

-- The capacitance of each is from 0 to 10^30, in 10^-24 farads.
abbrev pub HaveCapacitance : List Cap → Type 0
HaveCapacitance caps = All (λ cap. IsCapacitance cap.farads) caps

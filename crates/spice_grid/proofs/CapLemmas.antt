-- The capacitors of a netlist, from their cards and among its nodes.
use Rattle.std.proofs.Common.{ℕ, suc, Ok, List, [], ◌∷◌, All, length, sym, subst, arith}
use Rattle.std.proofs.lemmas.List.Elements.{All-nil, All-cons}
use Rattle.std.proofs.lemmas.Option.{slice_get_within}
use Rattle.capacitors.specs.declared.End.{End}
use Rattle.capacitors.specs.declared.End.TheVariants.{Node, Ground, Nowhere}
use Rattle.capacitors.specs.declared.Cap.{Cap}
use Rattle.entry_list.specs.InTurn.{InTurn}
use Rattle.entry_list.specs.Laws.{in-turn-all}
use Rattle.node_names.specs.Folding.{folded}
use Rattle.number_place.specs.Place.{IsNumberAt}
use Rattle.spice_cards.specs.declared.record.Capacitor.{Capacitor}
use Rattle.spice_cards.specs.Card.{CapacitorCard}
use Rattle.spice_cards.specs.Number.{farads, IsCapacitance}
use Rattle.spice_cards.specs.Record.{SaysCapacitor}
use Rattle.spice_grid.specs.Caps.{IsEnd, IsCapacitor, IsNumbered, IsAmong, EndAmong, HaveCapacitance}

-- Two relations of lists, one after the other.
turn-then : {A B C : Type 0} (first : A → B → Type 0) (second : B → C → Type 0) (both : A → C → Type 0) →
    ((a : A) (b : B) (c : C) → first a b → second b c → both a c) →
    (xs : List A) (ys : List B) (zs : List C) → InTurn first xs ys → InTurn second ys zs → InTurn both xs zs
turn-then first second both joins [] [] [] h k = tt
turn-then first second both joins (x ∷ xs) (y ∷ ys) (z ∷ zs) h k = (joins x y z h.0 k.0, turn-then first second both joins xs ys zs h.1 k.1)
turn-then first second both joins [] (y ∷ ys) zs h k = absurd h
turn-then first second both joins (x ∷ xs) [] zs h k = absurd h
turn-then first second both joins [] [] (z ∷ zs) h k = absurd k
turn-then first second both joins (x ∷ xs) (y ∷ ys) [] h k = absurd k

cap_is : (names : List (List ℕ)) (card : CapacitorCard) (read : Capacitor) (cap : Cap) → SaysCapacitor card read → IsNumbered names read cap → IsCapacitor names card cap
cap_is names card read cap says is = record {
  a = subst (λ z. IsEnd names z cap.a) says.a is.a;
  b = subst (λ z. IsEnd names z cap.b) says.b is.b;
  farads = subst (λ z. IsNumberAt farads card.value (Ok z)) (sym is.farads) says.farads;
}

-- The capacitors of cards are those that were read, with their ends.
pub caps_are : (names : List (List ℕ)) (cards : List CapacitorCard) (read : List Capacitor) (caps : List Cap) → InTurn SaysCapacitor cards read →
    InTurn (IsNumbered names) read caps → InTurn (IsCapacitor names) cards caps
caps_are names cards read caps h k = turn-then SaysCapacitor (IsNumbered names) (IsCapacitor names) (cap_is names) cards read caps h k

end_among : (names : List (List ℕ)) (name : List ℕ) (end : End) → IsEnd names name end → IsAmong (length names) end
end_among names name (Node number) h = slice_get_within names number (folded name) h.1
end_among names name Ground h = tt
end_among names name Nowhere h = tt

pub caps_among : (names : List (List ℕ)) (read : List Capacitor) (caps : List Cap) → InTurn (IsNumbered names) read caps → EndAmong (length names) caps
caps_among names read caps h =
    in-turn-all (IsNumbered names) (λ cap. IsAmong (length names) cap.a × IsAmong (length names) cap.b)
    (λ one cap is. (end_among names one.a.now cap.a is.a, end_among names one.b.now cap.b is.b)) read caps h

pub caps_hold : (names : List (List ℕ)) (read : List Capacitor) (caps : List Cap) → InTurn (IsNumbered names) read caps →
    All (λ one. IsCapacitance one.farads) read → HaveCapacitance caps
caps_hold names [] [] h all = All-nil (λ (cap : Cap). IsCapacitance cap.farads)
caps_hold names (one ∷ read) (cap ∷ caps) h all =
    All-cons (λ (cap : Cap). IsCapacitance cap.farads) cap caps (subst IsCapacitance (sym h.0.farads) (all 0 one (omega arith)))
    (caps_hold names read caps h.1 (λ k d w. all (suc k) d (omega arith)))
caps_hold names [] (cap ∷ caps) h all = absurd h
caps_hold names (one ∷ read) [] h all = absurd h

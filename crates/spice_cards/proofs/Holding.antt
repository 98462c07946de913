-- One more unit.
use Rattle.std.proofs.Common.{◌≡◌, ◌↔◌, ℕ, List, [], ◌∷◌, ◌++◌, Contains, Option, None, Some, inl, inr, refl, sym, ◌∙◌, ap, subst}
use Rattle.std.specs.Prelude.{flat_map, filter_map}
use Rattle.std.proofs.lemmas.List.Elements.{Contains-append_cases, Contains-append_left, Contains-append_right}
use Rattle.entry_list.specs.InTurn.{InTurn}
use Rattle.reading.specs.Word.{Token}
use Rattle.spice_cards.specs.declared.record.Capacitor.{Capacitor as ReadCapacitor}
use Rattle.spice_cards.specs.declared.record.Cards.{Cards}
use Rattle.spice_cards.specs.declared.section.Section.{Section}
use Rattle.spice_cards.specs.Card.{Card, CapacitorCard, card_of, cards_of, capacitor_in}
use Rattle.spice_cards.specs.Section.{section_from, section_after}
use Rattle.spice_cards.specs.Record.{Part, SaysCard, SaysCapacitor, SaysCards, nodes_of}
use Rattle.spice_cards.specs.inside.Held.{Adds, AddsCapacitor, AddsUnit, TakesNames}
use Rattle.spice_cards.proofs.Lists.{all-grow, all-have, turn-map, turn-one, filtered-some, filtered-none, flat-one}
use Rattle.spice_cards.proofs.Says.{says-more}

pub section-more : (section : Section) (units : List (List Token)) (unit : List Token) →
    section_from section (units ++ unit ∷ []) ≡ section_after (section_from section units) unit
section-more section [] unit = refl
section-more section (u ∷ units) unit = section-more (section_after section u) units unit

listed : {A : Type 0} (f : Part → List A) (parts : List Part) (part : Part) (old new : List A) → old ≡ flat_map f parts → new ≡ old ++ f part →
    new ≡ flat_map f (parts ++ part ∷ [])
listed f parts part old new e g = g ∙ ap (λ z. z ++ f part) e ∙ sym (flat-one f parts part)

nodes-more : (cards : List Card) (card : Card) (old new : List (List ℕ)) (x : List ℕ) → TakesNames old (nodes_of card) new →
    Contains old x ↔ Contains (flat_map nodes_of cards) x → Contains new x ↔ Contains (flat_map nodes_of (cards ++ card ∷ [])) x
nodes-more cards card old new x taken same =
    let has = all-have old (nodes_of card) new x taken in
    let more = flat-one nodes_of cards card in (
      (λ k. subst (λ z. Contains z x) (sym more) (elim (has.0 k) [
        | inl a ↦ Contains-append_left (flat_map nodes_of cards) (nodes_of card) x (same.0 a)
        | inr a ↦ Contains-append_right (flat_map nodes_of cards) (nodes_of card) x a
      ])),
      (λ k. has.1 (elim (Contains-append_cases (flat_map nodes_of cards) (nodes_of card) x (subst (λ z. Contains z x) more k)) [
        | inl a ↦ inl (same.1 a)
        | inr a ↦ inr a
      ])),
    )

-- The capacitors of one more card.
caps-more : (cards : List Card) (card : Card) (found : Option CapacitorCard) (old new : List ReadCapacitor) → capacitor_in card ≡ found →
    InTurn SaysCapacitor (filter_map capacitor_in cards) old → AddsCapacitor found old new → InTurn SaysCapacitor (filter_map capacitor_in (cards ++ card ∷ [])) new
caps-more cards card None old new e h adds =
    subst (λ z. InTurn SaysCapacitor z new) (sym (filtered-none capacitor_in cards card e)) (subst (λ z. InTurn SaysCapacitor (filter_map capacitor_in cards) z) (sym adds) h)
caps-more cards card (Some found) old new e h adds =
    subst (λ z. InTurn SaysCapacitor z new) (sym (filtered-some capacitor_in cards card found e))
    (subst (λ z. InTurn SaysCapacitor (filter_map capacitor_in cards ++ found ∷ []) z) (sym adds.2)
    (turn-one SaysCapacitor (filter_map capacitor_in cards) old found adds.0 h adds.1))

-- A unit that is a card.
card-more : (units : List (List Token)) (unit : List Token) (card : Card) (old new : Cards) → card_of unit ≡ Some card → SaysCards units old → Adds card old new →
    SaysCards (units ++ unit ∷ []) new
card-more units unit card old new is h adds =
    let cards = filtered-some card_of units unit card is in record {
      parts = h.parts ++ adds.part ∷ [];
      says = subst (λ z. InTurn (SaysCard new.names) z (h.parts ++ adds.part ∷ [])) (sym cards)
          (turn-one (SaysCard new.names) (cards_of units) h.parts card adds.part
          (turn-map (SaysCard old.names) (SaysCard new.names) (says-more old.names new.names (all-grow old.names (nodes_of card) new.names adds.names)) (cards_of units) h.parts h.says)
          adds.says);
      distinct = adds.distinct h.distinct;
      nodes = λ x. subst (λ z. Contains new.names x ↔ Contains (flat_map nodes_of z) x) (sym cards) (nodes-more (cards_of units) card old.names new.names x adds.names (h.nodes x));
      resistors = listed (λ part. part.resistors) h.parts adds.part _ _ h.resistors adds.lists.resistors;
      shorts = listed (λ part. part.shorts) h.parts adds.part _ _ h.shorts adds.lists.shorts;
      pads = listed (λ part. part.pads) h.parts adds.part _ _ h.pads adds.lists.pads;
      loads = listed (λ part. part.loads) h.parts adds.part _ _ h.loads adds.lists.loads;
      caps = subst (λ z. InTurn SaysCapacitor (filter_map capacitor_in z) new.caps.items) (sym cards)
          (caps-more (cards_of units) card (capacitor_in card) old.caps.items new.caps.items refl h.caps adds.caps);
    }

-- A unit that is none.
none-more : (units : List (List Token)) (unit : List Token) (old : Cards) → card_of unit ≡ None → SaysCards units old → SaysCards (units ++ unit ∷ []) old
none-more units unit old is h =
    let cards = filtered-none card_of units unit is in record {
      parts = h.parts;
      says = subst (λ z. InTurn (SaysCard old.names) z h.parts) (sym cards) h.says;
      distinct = h.distinct;
      nodes = λ x. subst (λ z. Contains old.names x ↔ Contains (flat_map nodes_of z) x) (sym cards) (h.nodes x);
      resistors = h.resistors;
      shorts = h.shorts;
      pads = h.pads;
      loads = h.loads;
      caps = subst (λ z. InTurn SaysCapacitor (filter_map capacitor_in z) old.caps.items) (sym cards) h.caps;
    }

unit-by : (units : List (List Token)) (unit : List Token) (found : Option Card) (old new : Cards) → card_of unit ≡ found → SaysCards units old → AddsUnit found old new →
    SaysCards (units ++ unit ∷ []) new
unit-by units unit None old new is h adds = subst (λ z. SaysCards (units ++ unit ∷ []) z) (sym adds) (none-more units unit old is h)
unit-by units unit (Some card) old new is h adds = card-more units unit card old new is h adds

pub unit-more : (units : List (List Token)) (unit : List Token) (old new : Cards) → SaysCards units old → AddsUnit (card_of unit) old new → SaysCards (units ++ unit ∷ []) new
unit-more units unit old new h adds = unit-by units unit (card_of unit) old new refl h adds

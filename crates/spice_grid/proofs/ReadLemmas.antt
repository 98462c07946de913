-- The errors of a netlist, from those of its cards and of its network.
use Rattle.std.proofs.Common.{◌≡◌, ◌⊎◌, inl, inr, ℕ, List, sym, subst}
use Rattle.outside.specs.declared.place.Place.{Place}
use Rattle.reading.specs.declared.error.ReadError.{ReadError}
use Rattle.reading.specs.Word.{Token}
use Rattle.spice_cards.specs.declared.error.CardsKind.{CardsKind}
use Rattle.spice_cards.specs.declared.error.CardsKind.TheVariants as cards
use Rattle.spice_cards.specs.declared.record.Cards.{Cards}
use Rattle.spice_cards.specs.Format.{IsNetlist, IsRefusedNetlist}
use Rattle.spice_cards.specs.Record.{SaysCards}
use Rattle.spice_grid.specs.declared.error.SpiceKind.{SpiceKind}
use Rattle.spice_grid.specs.declared.error.SpiceKind.TheVariants as kinds
use Rattle.spice_grid.specs.Named.{RefusesCards}
use Rattle.spice_grid.specs.Netlist.{spice_kind, RefusesWord, RefusesText}
use Rattle.spice_grid.proofs.OrderLemmas.{network_refused}

-- The refusal of a word, by its kind.
at_word : (text : List ℕ) (place : Place) (kind : CardsKind) → RefusesWord text place kind → RefusesText text place (spice_kind kind)
at_word text place cards.Syntax h = h
at_word text place cards.OutOfProfileCard h = h
at_word text place cards.FloatingSource h = h
at_word text place (cards.Number error) h = h
at_word text place cards.OutOfRange h = h
at_word text place cards.Want h = tt

wanting : (text : List ℕ) (place : Place) (kind : CardsKind) → kind ≡ cards.Want → RefusesText text place (spice_kind kind)
wanting text place kind e = subst (λ k. RefusesText text place (spice_kind k)) (sym e) tt

pub word_refused : (text : List ℕ) (error : ReadError CardsKind) (kind : SpiceKind) → (error.kind ≡ cards.Want) ⊎ IsRefusedNetlist text error → kind ≡ spice_kind error.kind →
    RefusesText text error.place kind
word_refused text error kind (inl h) e = subst (RefusesText text error.place) (sym e) (wanting text error.place error.kind h)
word_refused text error kind (inr h) e = subst (RefusesText text error.place) (sym e) (at_word text error.place error.kind h)

-- The refusal of the network.
pub build_refused : (text : List ℕ) (units : List (List Token)) (cards : Cards) (place : Place) (kind : SpiceKind) → IsNetlist text units → SaysCards units cards → RefusesCards cards kind →
    RefusesText text place kind
build_refused text units cards place (kinds.Net refusal) is says h = (units, is, network_refused units cards refusal says h)
build_refused text units cards place kinds.Want is says h = tt
build_refused text units cards place kind is says h = absurd h

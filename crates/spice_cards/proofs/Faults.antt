-- Where the faults of the words of a card stand, and that there is one.
use Rattle.std.proofs.Common.{◌≡◌, ℕ, ◌+◌, ℤ, Bool, true, false, if◌then◌else◌, List, [], ◌∷◌, length, Option, Some, Result, refl, sym, ◌∙◌, ap, arith}
use Rattle.number_place.specs.declared.place.NumberPlace.{NumberPlace}
use Rattle.number_place.specs.declared.place.Refused.{Refused}
use Rattle.number_place.specs.Place.{IsNumberAt}
use Rattle.reading.specs.declared.refusal.Found.{Found}
use Rattle.reading.specs.Word.{Token}
use Rattle.spice_cards.specs.declared.error.CardsKind.{CardsKind}
use Rattle.spice_cards.specs.declared.sort.Sort.{Sort}
use Rattle.spice_cards.specs.declared.sort.Sort.TheVariants as sorts
use Rattle.spice_cards.specs.Sort.{sort_of}
use Rattle.spice_cards.specs.Card.{is_dc_first, without_dc, value_at}
use Rattle.spice_cards.specs.Number.{ohms, volts, amperes, farads}
use Rattle.spice_cards.specs.Fault.{refused_by, source_by, low_by, high_by, AnswerFault, EndFault, ResistorFault, SourceFault, LoadFault, CapacitorFault, CardFault, fault}

-- ## where faults stand

resistor_last : (words : List Token) (found : Found CardsKind) → ResistorFault words found → found.at + 1 ≡ 3 + length words
resistor_last (value ∷ []) found h = ap (λ z. z + 1) h.0
resistor_last words found h = absurd h

source_last : (a b : List ℕ) (at : ℕ) (words : List Token) (found : Found CardsKind) → SourceFault a b at words found → found.at + 1 ≡ at + length words
source_last a b at (value ∷ []) found h = ap (λ z. z + 1) h.0
source_last a b at words found h = absurd h

load_last : (at : ℕ) (words : List Token) (found : Found CardsKind) → LoadFault at words found → found.at + 1 ≡ at + length words
load_last at (value ∷ []) found h = ap (λ z. z + 1) h.0
load_last at (value ∷ range ∷ low ∷ []) found h = let e : found.at ≡ at + 2 = h.0 in omega arith
load_last at (value ∷ range ∷ low ∷ high ∷ []) found h = let e : found.at ≡ at + 3 = h.0 in omega arith
load_last at words found h = absurd h

capacitor_last : (words : List Token) (found : Found CardsKind) → CapacitorFault words found → found.at + 1 ≡ 3 + length words
capacitor_last (value ∷ []) found h = ap (λ z. z + 1) h.0
capacitor_last words found h = absurd h

counts_by : (first : Bool) (word : Token) (words : List Token) → (if first then 4 else 3) + length (if first then words else word ∷ words) ≡ 3 + length (word ∷ words)
counts_by true word words = omega arith
counts_by false word words = refl

dc_counts : (words : List Token) → value_at words + length (without_dc words) ≡ 3 + length words
dc_counts [] = refl
dc_counts (word ∷ words) = counts_by (is_dc_first (word ∷ words)) word words

card_last : (letter : Sort) (a b : List ℕ) (words : List Token) (found : Found CardsKind) → CardFault letter a b words found → found.at + 1 ≡ 3 + length words
card_last sorts.Resistor a b words found h = resistor_last words found h
card_last sorts.Source a b words found h = source_last a b (value_at words) (without_dc words) found h ∙ dc_counts words
card_last sorts.Load a b words found h = load_last (value_at words) (without_dc words) found h ∙ dc_counts words
card_last sorts.Capacitor a b words found h = capacitor_last words found h
card_last letter a b words found h = absurd h

pub last : (units : List (List Token)) (part : List Token) (found : Found CardsKind) → fault units part found → found.at + 1 ≡ length part
last units (first ∷ []) found h = ap (λ z. z + 1) h.0
last units (first ∷ a ∷ b ∷ words) found h =
    let e : found.at + 1 ≡ 3 + length words = card_last (sort_of first) a.text b.text words found h in omega arith
last units part found h = absurd h

-- ## one kind

abbrev pub HasOne : Type 0
HasOne = (place : NumberPlace) (text : List ℕ) (r s : Result ℤ Refused) → IsNumberAt place text r → IsNumberAt place text s → r ≡ s

same_some : (k l : CardsKind) → ◌≡◌ {A = Option CardsKind} (Some k) (Some l) → k ≡ l
same_some k l h = cc

answer_one : HasOne → (place : NumberPlace) (by : Result ℤ Refused → Option CardsKind) (text : List ℕ) (k l : CardsKind) → AnswerFault place by text k → AnswerFault place by text l → l ≡ k
answer_one one place by text k l h i = same_some l k (sym i.2 ∙ ap by (one place text i.0 h.0 i.1 h.1) ∙ h.2)

end_one : HasOne → (by : Result ℤ Refused → Result ℤ Refused → Option CardsKind) (value text : List ℕ) (k l : CardsKind) → EndFault by value text k → EndFault by value text l → l ≡ k
end_one one by value text k l h i =
    same_some l k (sym i.4 ∙ ap (λ z. by z i.1) (one amperes value i.0 h.0 i.2 h.2) ∙ ap (λ z. by h.0 z) (one amperes text i.1 h.1 i.3 h.3) ∙ h.4)

resistor_one : HasOne → (words : List Token) (x y : Found CardsKind) → ResistorFault words x → ResistorFault words y → y.kind ≡ x.kind
resistor_one one (value ∷ []) x y h i = answer_one one ohms refused_by value.text x.kind y.kind h.1 i.1
resistor_one one words x y h i = absurd h

source_one : HasOne → (a b : List ℕ) (at : ℕ) (words : List Token) (x y : Found CardsKind) → SourceFault a b at words x → SourceFault a b at words y → y.kind ≡ x.kind
source_one one a b at (value ∷ []) x y h i = answer_one one volts (source_by a b) value.text x.kind y.kind h.1 i.1
source_one one a b at words x y h i = absurd h

load_one : HasOne → (at : ℕ) (words : List Token) (x y : Found CardsKind) → LoadFault at words x → LoadFault at words y → y.kind ≡ x.kind
load_one one at (value ∷ []) x y h i = answer_one one amperes refused_by value.text x.kind y.kind h.1 i.1
load_one one at (value ∷ range ∷ low ∷ []) x y h i = end_one one low_by value.text low.text x.kind y.kind h.1 i.1
load_one one at (value ∷ range ∷ low ∷ high ∷ []) x y h i = end_one one high_by value.text high.text x.kind y.kind h.1 i.1
load_one one at words x y h i = absurd h

capacitor_one : HasOne → (words : List Token) (x y : Found CardsKind) → CapacitorFault words x → CapacitorFault words y → y.kind ≡ x.kind
capacitor_one one (value ∷ []) x y h i = answer_one one farads refused_by value.text x.kind y.kind h.1 i.1
capacitor_one one words x y h i = absurd h

card_one : HasOne → (letter : Sort) (a b : List ℕ) (words : List Token) (x y : Found CardsKind) → CardFault letter a b words x → CardFault letter a b words y → y.kind ≡ x.kind
card_one one sorts.Resistor a b words x y h i = resistor_one one words x y h i
card_one one sorts.Source a b words x y h i = source_one one a b (value_at words) (without_dc words) x y h i
card_one one sorts.Load a b words x y h i = load_one one (value_at words) (without_dc words) x y h i
card_one one sorts.Capacitor a b words x y h i = capacitor_one one words x y h i
card_one one letter a b words x y h i = absurd h

pub one_kind : HasOne → (units : List (List Token)) (part : List Token) (x y : Found CardsKind) → fault units part x → fault units part y → y.kind ≡ x.kind
one_kind one units (first ∷ []) x y h i = i.1.2 ∙ sym h.1.2
one_kind one units (first ∷ a ∷ b ∷ words) x y h i = card_one one (sort_of first) a.text b.text words x y h i
one_kind one units part x y h i = absurd h

-- Whole units without a fault, where they lead, and what they say.
use Rattle.std.proofs.Common.{◌≡◌, ℕ, zero, suc, ◌-◌, ◌<◌, ◌==◌, Bool, true, false, if◌then◌else◌, ℤ, List, [], ◌∷◌, ◌++◌, length, take, filter, Option, Some, None, Ok, Err, refl, sym, ◌∙◌, ap, subst, append_assoc, arith, inl, inr}
use Rattle.std.specs.Prelude.{slice_get}
use Rattle.std.proofs.lemmas.List.{append-nil, length-take-le}
use Rattle.std.proofs.lemmas.List.Elements.{filter-append}
use Rattle.outside.specs.declared.place.Place.{Place}
use Rattle.entry_list.specs.InTurn.{InTurn}
use Rattle.number_place.specs.Place.{IsNumberAt}
use Rattle.reading.specs.declared.refusal.Found.{Found}
use Rattle.reading.specs.Pattern.{Matches, joined}
use Rattle.reading.specs.Grammar.{NoneShows}
use Rattle.reading.specs.Taken.{AreTaken}
use Rattle.reading.specs.Word.{Token}
use Rattle.wiring_file.specs.declared.error.WiringKind.{WiringKind}
use Rattle.wiring_file.specs.declared.number.Quantity.{Quantity}
use Rattle.wiring_file.specs.declared.record.Wiring.{Wiring}
use Rattle.wiring_file.specs.declared.section.Section.{Section}
use Rattle.wiring_file.specs.Sort.{sort_of}
use Rattle.wiring_file.specs.Rule.{pattern}
use Rattle.wiring_file.specs.Number.{place_of, numbers_in, quantity_at}
use Rattle.wiring_file.specs.Unit.{text_at, text_or}
use Rattle.wiring_file.specs.Standing.{Standing, start, after, standing, standing_from, placed_from}
use Rattle.wiring_file.specs.Fault.{Says, IsNumberFault, IsUnfit, fault_at}
use Rattle.wiring_file.specs.Record.{is_via, is_wire, is_stacked, SaysVia, SaysWire, SaysPlace}
use Rattle.wiring_file.specs.Format.{format}
use Rattle.wiring_file.proofs.Digits.{Laws, not_refused}
use Rattle.wiring_file.proofs.Spelled.{past, tokens-append}
use Rattle.written_words.specs.Spelled.{Written, tokens}

-- ## no word of a unit shows a fault

-- None of the first words of the unit, which stands here, shows a fault.
abbrev pub NoFault : Standing → List Token → Type 0
NoFault s u = (n : ℕ) → n < length u → (found : Found WiringKind) → fault_at s (take (suc n) u) found → ⊥

abbrev pub IsOne : Quantity → ℕ → List Token → Type 0
IsOne quantity n u = (v : ℤ) × Says quantity n u v

-- The words at these places are numbers, as far as the unit goes.
abbrev pub AreNumbers : List (ℕ × Quantity) → List Token → Type 0
AreNumbers [] u = Unit {0}
AreNumbers (number ∷ numbers) u = (number.0 < length u → IsOne number.1 number.0 u) × AreNumbers numbers u

-- No last word of some first words is unfit.
abbrev pub IsFit : Standing → List Token → Type 0
IsFit s u = (n : ℕ) → n < length u → IsUnfit s.section s (take (suc n) u) → ⊥

abbrev among_by : Bool → Quantity → ℕ → List (ℕ × Quantity) → Option Quantity
among_by b r n numbers = if b then Some r else quantity_at n numbers

number_among_by : (b : Bool) (m n : ℕ) (r q : Quantity) (numbers : List (ℕ × Quantity)) (u : List Token) → (m == n) ≡ b → among_by b r n numbers ≡ Some q →
    (m < length u → IsOne r m u) → (quantity_at n numbers ≡ Some q → IsOne q n u) → n < length u → IsOne q n u
number_among_by true m n r q numbers u e is here more within =
    let place : m ≡ n = grind (arith, e) in
    let quantity : r ≡ q = cc in
    subst (λ z. IsOne z n u) quantity (subst (λ z. IsOne r z u) place (here (omega arith)))
number_among_by false m n r q numbers u e is here more within = more is

number_among : (n : ℕ) (q : Quantity) (numbers : List (ℕ × Quantity)) (u : List Token) → AreNumbers numbers u → quantity_at n numbers ≡ Some q → n < length u → IsOne q n u
number_among n q [] u h e within = absurd (let t : None ≡ Some q = e in cc)
number_among n q (number ∷ numbers) u h e within =
    number_among_by (number.0 == n) number.0 n number.1 q numbers u refl e h.0 (λ k. number_among n q numbers u h.1 k within) within

same_get : (u : List Token) (n : ℕ) → slice_get (take (suc n) u) n ≡ slice_get u n
same_get [] n = refl
same_get (t ∷ u) zero = refl
same_get (t ∷ u) (suc n) = same_get u n

no_number_fault : Laws → (section : Section) (u : List Token) (n : ℕ) (kind : WiringKind) → AreNumbers (numbers_in section) u → n < length u →
    IsNumberFault section (take (suc n) u) kind → ⊥
no_number_fault laws section u n kind numbers within (q, among, (reason, refused, is)) =
    let last : length (take (suc n) u) - 1 ≡ n = omega (arith, length-take-le (suc n) u (omega arith)) in
    let one : IsOne q n u = number_among n q (numbers_in section) u numbers (subst (λ z. quantity_at z (numbers_in section) ≡ Some q) last among) within in
    let text : text_at (length (take (suc n) u) - 1) (take (suc n) u) ≡ text_at n u = ap (λ z. text_at z (take (suc n) u)) last ∙ ap text_or (same_get u n) in
    not_refused one.0 reason (laws.one (place_of q) (text_at n u) (Ok one.0) (Err reason) one.1 (subst (λ z. IsNumberAt (place_of q) z (Err reason)) text refused))

pub no_fault : Laws → (s : Standing) (u : List Token) → AreNumbers (numbers_in s.section) u → IsFit s u → NoFault s u
no_fault laws s u numbers fit = λ n within found fault. elim fault.1 [
  | inl number ↦ no_number_fault laws s.section u n found.kind numbers within number
  | inr unfit ↦ fit n within unfit.1
]

-- ## units, one after the other

abbrev pub AreTakenAt : Standing → List (List Token) → Type 0
AreTakenAt s [] = Unit {0}
AreTakenAt s (u ∷ us) = (0 < length u) × Matches sort_of (pattern s.section) u × NoFault s u × AreTakenAt (after s u) us

take_front : (before ts : List Token) (t : Token) → take (suc (length before)) (before ++ t ∷ ts) ≡ before ++ t ∷ []
take_front [] ts t = refl
take_front (b ∷ before) ts t = ap (λ z. b ∷ z) (take_front before ts t)

within_all : (before ts all : List Token) (t : Token) → all ≡ before ++ t ∷ ts → length before < length all
within_all [] ts all t e = let n = ap length e in omega arith
within_all (b ∷ before) [] all t e = let n = ap length e in let m = within_all before [] (before ++ t ∷ []) t refl in omega arith
within_all (b ∷ before) (c ∷ ts) all t e = let n = ap length e in let m = within_all before (c ∷ ts) (before ++ t ∷ c ∷ ts) t refl in omega arith

none_shows : (units : List (List Token)) (before ts all : List Token) → all ≡ before ++ ts → NoFault (standing units) all → NoneShows format units before ts
none_shows units before [] all e h = tt
none_shows units before (t ∷ ts) all e h = (
  λ a k. h (length before) (within_all before ts all t e) a
      (subst (λ z. fault_at (standing units) z a) (sym (ap (take (suc (length before))) e ∙ take_front before ts t)) k),
  none_shows units (before ++ t ∷ []) ts all (e ∙ sym (append_assoc before (t ∷ []) ts)) h,
)

standing-append : (s : Standing) (us vs : List (List Token)) → standing_from s (us ++ vs) ≡ standing_from (standing_from s us) vs
standing-append s [] vs = refl
standing-append s (u ∷ us) vs = standing-append (after s u) us vs

placed-append : (s : Standing) (us vs : List (List Token)) → placed_from s (us ++ vs) ≡ placed_from s us ++ placed_from (standing_from s us) vs
placed-append s [] vs = refl
placed-append s (u ∷ us) vs = ap (λ z. (s, u) ∷ z) (placed-append (after s u) us vs)

pub taken_at : (before us : List (List Token)) → AreTakenAt (standing before) us → AreTaken format before us
taken_at before [] h = tt
taken_at before (u ∷ us) h = (
  h.0,
  record { matches = h.1; fine = none_shows before [] u u refl h.2 },
  taken_at (before ++ u ∷ []) us (subst (λ z. AreTakenAt z us) (sym (standing-append start before (u ∷ []))) h.3),
)

taken-append : (s : Standing) (us vs : List (List Token)) → AreTakenAt s us → AreTakenAt (standing_from s us) vs → AreTakenAt s (us ++ vs)
taken-append s [] vs h k = k
taken-append s (u ∷ us) vs h k = (h.0, h.1, h.2, taken-append (after s u) us vs h.3 k)

-- ## what units say

abbrev pub both : Wiring → Wiring → Wiring
both a b = record { vias = a.vias ++ b.vias; wires = a.wires ++ b.wires; places = a.places ++ b.places }

abbrev pub nothing : Wiring
nothing = record { vias = []; wires = []; places = [] }

-- Whole units without a fault, the first of which stands here, lead there, and say this.
pub record IsBlock (s : Standing) (us : List (List Token)) (t : Standing) (said : Wiring) : Type 0 where
  pub taken : AreTakenAt s us
  pub leads : standing_from s us ≡ t
  pub vias : InTurn SaysVia (filter is_via (placed_from s us)) said.vias
  pub wires : InTurn SaysWire (filter is_wire (placed_from s us)) said.wires
  pub places : InTurn SaysPlace (filter is_stacked (placed_from s us)) said.places

turn-append : {L E : Type 0} (says : L → E → Type 0) (xs ys : List L) (es fs : List E) → InTurn says xs es → InTurn says ys fs → InTurn says (xs ++ ys) (es ++ fs)
turn-append says [] ys [] fs h k = k
turn-append says (x ∷ xs) ys (a ∷ es) fs h k = (h.0, turn-append says xs ys es fs h.1 k)
turn-append says [] ys (a ∷ es) fs h k = absurd h
turn-append says (x ∷ xs) ys [] fs h k = absurd h

turn_both : {E : Type 0} (says : Standing × List Token → E → Type 0) (is : Standing × List Token → Bool) (s t : Standing) (us vs : List (List Token)) (es fs : List E) →
    standing_from s us ≡ t → InTurn says (filter is (placed_from s us)) es → InTurn says (filter is (placed_from t vs)) fs →
    InTurn says (filter is (placed_from s (us ++ vs))) (es ++ fs)
turn_both says is s t us vs es fs e h k =
    let split : filter is (placed_from s (us ++ vs)) ≡ filter is (placed_from s us) ++ filter is (placed_from t vs) =
    ap (filter is) (placed-append s us vs) ∙ filter-append is (placed_from s us) (placed_from (standing_from s us) vs)
    ∙ ap (λ z. filter is (placed_from s us) ++ filter is (placed_from z vs)) e in
    subst (λ z. InTurn says z (es ++ fs)) (sym split) (turn-append says (filter is (placed_from s us)) (filter is (placed_from t vs)) es fs h k)

pub joins : (s t r : Standing) (us vs : List (List Token)) (a b : Wiring) → IsBlock s us t a → IsBlock t vs r b → IsBlock s (us ++ vs) r (both a b)
joins s t r us vs a b h k = record {
  taken = taken-append s us vs h.taken (subst (λ z. AreTakenAt z vs) (sym h.leads) k.taken);
  leads = standing-append s us vs ∙ ap (λ z. standing_from z vs) h.leads ∙ k.leads;
  vias = turn_both SaysVia is_via s t us vs a.vias b.vias h.leads h.vias k.vias;
  wires = turn_both SaysWire is_wire s t us vs a.wires b.wires h.leads h.wires k.wires;
  places = turn_both SaysPlace is_stacked s t us vs a.places b.places h.leads h.places k.places;
}

pub both_nothing : (a : Wiring) → both a nothing ≡ a
both_nothing a =
    ap (λ z. let w : Wiring = record { vias = z; wires = a.wires ++ []; places = a.places ++ [] } in w) (append-nil a.vias)
    ∙ ap (λ z. let w : Wiring = record { vias = a.vias; wires = z; places = a.places ++ [] } in w) (append-nil a.wires)
    ∙ ap (λ z. let w : Wiring = record { vias = a.vias; wires = a.wires; places = z } in w) (append-nil a.places)

-- ## units of written words

-- The units of these words, each at its place.
abbrev pub units_of : (ℕ → Place) → List (List Written) → List (List Token)
units_of f [] = []
units_of f (u ∷ us) = tokens f u ∷ units_of (past u f) us

abbrev pub past_all : List (List Written) → (ℕ → Place) → ℕ → Place
past_all [] f = f
past_all (u ∷ us) f = past_all us (past u f)

pub joined-units : (f : ℕ → Place) (us : List (List Written)) → joined (units_of f us) ≡ tokens f (joined us)
joined-units f [] = refl
joined-units f (u ∷ us) = ap (λ z. tokens f u ++ z) (joined-units (past u f) us) ∙ sym (tokens-append f u (joined us))

units-append : (f : ℕ → Place) (us vs : List (List Written)) → units_of f (us ++ vs) ≡ units_of f us ++ units_of (past_all us f) vs
units-append f [] vs = refl
units-append f (u ∷ us) vs = ap (λ z. tokens f u ∷ z) (units-append (past u f) us vs)

-- These units, wherever their words stand in the text.
abbrev pub Says_in : Standing → List (List Written) → Standing → Wiring → Type 0
Says_in s us t said = (f : ℕ → Place) → IsBlock s (units_of f us) t said

pub none_written : (s : Standing) → Says_in s [] s nothing
none_written s f = record { taken = tt; leads = refl; vias = tt; wires = tt; places = tt }

pub joins_written : (s t r : Standing) (us vs : List (List Written)) (a b : Wiring) → Says_in s us t a → Says_in t vs r b → Says_in s (us ++ vs) r (both a b)
joins_written s t r us vs a b h k f =
    subst (λ z. IsBlock s z r (both a b)) (sym (units-append f us vs)) (joins s t r (units_of f us) (units_of (past_all us f) vs) a b (h f) (k (past_all us f)))

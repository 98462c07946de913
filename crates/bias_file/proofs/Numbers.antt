-- Numbers that are refused, and ranges that fall.
use Rattle.std.proofs.Common.{◌≡◌, true, false, List, ℕ, ℤ, ◌<ℤ◌, ◌≤ℤ◌, Result, Ok, Err, inl, inr, refl, sym, ◌∙◌, ap, subst, arith}
use Rattle.bias_file.specs.declared.error.BiasKind.{BiasKind}
use Rattle.bias_file.specs.declared.sort.Sort.{Sort}
use Rattle.bias_file.specs.declared.sort.Sort.TheVariants.{Supply, DropLimit, Pad, Cell, Instance}
use Rattle.bias_file.specs.Fault.{refused_kind, NumberFault, ValueFault, Falls, RangeFault, FourthFault, FifthFault}
use Rattle.bias_file.specs.Number.{volts, drop_volts, amperes, micrometres}
use Rattle.number_place.specs.declared.place.NumberPlace.{NumberPlace}
use Rattle.number_place.specs.declared.place.Refused.{Refused}
use Rattle.number_place.specs.Place.{IsNumberAt}
use Rattle.reading.specs.Word.{Token}
use Rattle.reading.specs.Fault.{FindsValue}
use Rattle.bias_file.specs.declared.value.Value.{Value}
use Rattle.bias_file.specs.declared.error.BiasKind.TheVariants.{Falling}
use Rattle.bias_file.specs.inside.Value.{SaysHigh, IsSmall, small_of}
use Rattle.bias_file.specs.Rule.{is_number}
use Rattle.bias_file.specs.Sort.{sort_of}
use Rattle.std.proofs.lemmas.Int.{ints}

-- There is only this answer.
abbrev pub IsOnly : NumberPlace → List ℕ → Result ℤ Refused → Type 0
IsOnly place text answer = (other : Result ℤ Refused) → IsNumberAt place text other → other ≡ answer

ok_is : (v w : ℤ) → ◌≡◌ {A = Result ℤ Refused} (Ok v) (Ok w) → v ≡ w
ok_is v w h = cc

no_error : (r : Refused) (v : ℤ) → ◌≡◌ {A = Result ℤ Refused} (Err r) (Ok v) → ⊥
no_error r v h = cc

pub none_refused : (place : NumberPlace) (text : List ℕ) (v : ℤ) → IsOnly place text (Ok v) → (kind : BiasKind) → NumberFault place text kind → ⊥
none_refused place text v only kind h = no_error h.0 v (only (Err h.0) h.1)

-- ## one kind

abbrev pub HasOne : Type 0
HasOne = (place : NumberPlace) (text : List ℕ) (r s : Result ℤ Refused) → IsNumberAt place text r → IsNumberAt place text s → r ≡ s

err_is : (r s : Refused) → ◌≡◌ {A = Result ℤ Refused} (Err r) (Err s) → r ≡ s
err_is r s h = cc

pub number_one : HasOne → (place : NumberPlace) (text : List ℕ) (k l : BiasKind) → NumberFault place text k → NumberFault place text l → l ≡ k
number_one one place text k l h i = i.2 ∙ ap refused_kind (err_is i.0 h.0 (one place text (Err i.0) (Err h.0) i.1 h.1)) ∙ sym h.2

pub value_one : HasOne → (word : Sort) (text : List ℕ) (k l : BiasKind) → ValueFault word text k → ValueFault word text l → l ≡ k
value_one one Supply text k l h i = number_one one volts text k l h i
value_one one DropLimit text k l h i = number_one one drop_volts text k l h i
value_one one Cell text k l h i = number_one one amperes text k l h i
value_one one Instance text k l h i = number_one one amperes text k l h i
value_one one word text k l h i = absurd h

not_both : HasOne → (low high : List ℕ) (k : BiasKind) → NumberFault amperes high k → Falls low high → ⊥
not_both one low high k h f = no_error h.0 f.1 (one amperes high (Err h.0) (Ok f.1) h.1 f.3)

range_one : HasOne → (low high : Token) (k l : BiasKind) → RangeFault low high k → RangeFault low high l → l ≡ k
range_one one low high k l h i = elim h.1 [
  | inl a ↦ elim i.1 [ inl b ↦ number_one one amperes high.text k l a b | inr b ↦ absurd (not_both one low.text high.text k a b.1) ]
  | inr a ↦ elim i.1 [ inl b ↦ absurd (not_both one low.text high.text l b a.1) | inr b ↦ b.0 ∙ sym a.0 ]
]

pub fourth_one : HasOne → (word : Sort) (third fourth : Token) (k l : BiasKind) → FourthFault word third fourth k → FourthFault word third fourth l → l ≡ k
fourth_one one Cell third fourth k l h i = range_one one third fourth k l h i
fourth_one one Instance third fourth k l h i = range_one one third fourth k l h i
fourth_one one Pad third fourth k l h i = number_one one micrometres fourth.text k l h i
fourth_one one word third fourth k l h i = absurd h

pub fifth_one : HasOne → (word : Sort) (text : List ℕ) (k l : BiasKind) → FifthFault word text k → FifthFault word text l → l ≡ k
fifth_one one Pad text k l h i = number_one one micrometres text k l h i
fifth_one one word text k l h i = absurd h

-- ## ranges

-- The word after the first number is the line's end: there is no second number.
pub range_none : (low high : Token) (v : Value) → is_number (sort_of high) ≡ false → FindsValue (RangeFault low high) (SaysHigh low high) (Ok v)
range_none low high v not_there =
    ((λ kind h. absurd (let t : true ≡ false = sym h.0 ∙ not_there in cc)), (λ there. absurd (let t : true ≡ false = sym there ∙ not_there in cc)))

pub range_falls : (low high : Token) (a b : ℤ) → is_number (sort_of high) ≡ true → IsNumberAt amperes low.text (Ok a) → IsNumberAt amperes high.text (Ok b) → b <ℤ a →
    RangeFault low high Falling
range_falls low high a b there is_a is_b lt =
    let falls : Falls low.text high.text = (a, b, is_a, is_b, lt) in
    (there, inr (refl, falls))

pub range_refused : (low high : Token) (refused : Refused) → is_number (sort_of high) ≡ true → IsNumberAt amperes high.text (Err refused) → RangeFault low high (refused_kind refused)
range_refused low high refused there is =
    let fault : NumberFault amperes high.text (refused_kind refused) = (refused, is, refl) in
    (there, inl fault)

no_fall : (a b : ℤ) → a ≤ℤ b → b <ℤ a → ⊥
no_fall a b le lt = omega (arith, ints)

pub range_rises : HasOne → (low high : Token) (a : ℤ) (v : Value) → IsNumberAt amperes low.text (Ok a) → IsSmall amperes high.text v → a ≤ℤ small_of v →
    FindsValue (RangeFault low high) (SaysHigh low high) (Ok v)
range_rises one low high a v is_a is_b le = (
  (λ kind h. elim h.1 [
    | inl f ↦ no_error f.0 (small_of v) (one amperes high.text (Err f.0) (Ok (small_of v)) f.1 is_b)
    | inr g ↦ (let falls = g.1 in
        no_fall a (small_of v) le
        (subst (λ z. z <ℤ a) (ok_is falls.1 (small_of v) (one amperes high.text (Ok falls.1) (Ok (small_of v)) falls.3 is_b))
        (subst (λ z. falls.1 <ℤ z) (ok_is falls.0 a (one amperes low.text (Ok falls.0) (Ok a) falls.2 is_a)) falls.4)))
  ]),
  (λ there. (is_b, (λ least is. subst (λ z. z ≤ℤ small_of v) (ok_is a least (one amperes low.text (Ok a) (Ok least) is_a is)) le))),
)

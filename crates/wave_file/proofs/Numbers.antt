-- Steps and numbers: each word has one answer.
use Rattle.std.proofs.Common.{◌≡◌, true, false, List, ℕ, ◌≤◌, ◌^◌, ℤ, pos, negsuc, ◌<ℤ◌, ◌≤ℤ◌, Result, Ok, Err, inl, inr, refl, sym, ◌∙◌, ap, subst, arith, to_z, of_z}
use Rattle.std.specs.Prelude.{unsigned_abs}
use Rattle.std.specs.Int.{w64}
use Rattle.std.proofs.lemmas.Int.{ints, to_z-of_z, fits_signed_from_abs}
use Rattle.wave_file.specs.declared.error.WavesKind.{WavesKind}
use Rattle.wave_file.specs.declared.error.WavesKind.TheVariants.{Falling}
use Rattle.wave_file.specs.declared.value.Value.{Value}
use Rattle.wave_file.specs.Fault.{refused_kind, NumberFault, Falls, RangeFault}
use Rattle.wave_file.specs.Number.{steps, amperes, IsStep}
use Rattle.wave_file.specs.Rule.{is_number}
use Rattle.wave_file.specs.Sort.{sort_of}
use Rattle.wave_file.specs.inside.Value.{SaysAmps, SaysHigh, amps_of}
use Rattle.number_place.specs.declared.place.NumberPlace.{NumberPlace}
use Rattle.number_place.specs.declared.place.Refused.{Refused}
use Rattle.number_place.specs.Place.{IsNumberAt}
use Rattle.reading.specs.Fault.{FindsValue}
use Rattle.reading.specs.Word.{Token}

-- There is only this answer.
abbrev pub IsOnly : NumberPlace → List ℕ → Result ℤ Refused → Type 0
IsOnly place text answer = (other : Result ℤ Refused) → IsNumberAt place text other → other ≡ answer

pub ok_is : (v w : ℤ) → ◌≡◌ {A = Result ℤ Refused} (Ok v) (Ok w) → v ≡ w
ok_is v w h = cc

pub no_error : (r : Refused) (v : ℤ) → ◌≡◌ {A = Result ℤ Refused} (Err r) (Ok v) → ⊥
no_error r v h = cc

pub none_refused : (text : List ℕ) (v : ℤ) → IsOnly amperes text (Ok v) → (kind : WavesKind) → NumberFault text kind → ⊥
none_refused text v only kind h = no_error h.0 v (only (Err h.0) h.1)

-- ## one answer

abbrev pub HasOne : Type 0
HasOne = (place : NumberPlace) (text : List ℕ) (r s : Result ℤ Refused) → IsNumberAt place text r → IsNumberAt place text s → r ≡ s

err_is : (r s : Refused) → ◌≡◌ {A = Result ℤ Refused} (Err r) (Err s) → r ≡ s
err_is r s h = cc

pub one_value : HasOne → (text : List ℕ) (v w : ℤ) → IsNumberAt amperes text (Ok v) → IsNumberAt amperes text (Ok w) → v ≡ w
one_value one text v w h k = ok_is v w (one amperes text (Ok v) (Ok w) h k)

abbrev whole : ℤ → ℕ
whole (pos n) = n
whole (negsuc n) = 0

pub one_step : HasOne → (text : List ℕ) (k l : ℕ) → IsStep text k → IsStep text l → k ≡ l
one_step one text k l h i = ap whole (ok_is (pos k) (pos l) (one steps text (Ok (pos k)) (Ok (pos l)) h i))

pub number_one : HasOne → (text : List ℕ) (k l : WavesKind) → NumberFault text k → NumberFault text l → l ≡ k
number_one one text k l h i = i.2 ∙ ap refused_kind (err_is i.0 h.0 (one amperes text (Err i.0) (Err h.0) i.1 h.1)) ∙ sym h.2

not_both : HasOne → (low high : List ℕ) (k : WavesKind) → NumberFault high k → Falls low high → ⊥
not_both one low high k h f = no_error h.0 f.1 (one amperes high (Err h.0) (Ok f.1) h.1 f.3)

pub range_one : HasOne → (low high : Token) (k l : WavesKind) → RangeFault low high k → RangeFault low high l → l ≡ k
range_one one low high k l h i = elim h.1 [
  | inl a ↦ elim i.1 [ inl b ↦ number_one one high.text k l a b | inr b ↦ absurd (not_both one low.text high.text k a b.1) ]
  | inr a ↦ elim i.1 [ inl b ↦ absurd (not_both one low.text high.text l b a.1) | inr b ↦ b.0 ∙ sym a.0 ]
]

-- ## numbers as the machine keeps them

pub kept_64 : (v : ℤ) → unsigned_abs v ≤ 10 ^ 18 → to_z w64 (of_z w64 v) ≡ v
kept_64 v h = to_z-of_z w64 v (fits_signed_from_abs w64 v (omega arith))

-- ## ranges

-- The word after the first number is the line's end: there is no second number.
pub range_none : (low high : Token) (v : Value) → is_number (sort_of high) ≡ false → FindsValue (RangeFault low high) (SaysHigh low high) (Ok v)
range_none low high v not_there =
    ((λ kind h. absurd (let t : true ≡ false = sym h.0 ∙ not_there in cc)), (λ there. absurd (let t : true ≡ false = sym there ∙ not_there in cc)))

pub range_falls : (low high : Token) (a b : ℤ) → is_number (sort_of high) ≡ true → IsNumberAt amperes low.text (Ok a) → IsNumberAt amperes high.text (Ok b) → b <ℤ a →
    RangeFault low high Falling
range_falls low high a b there is_a is_b lt =
    let falls : Falls low.text high.text = (a, b, is_a, is_b, lt) in
    (there, inr (refl, falls))

pub range_refused : (low high : Token) (refused : Refused) → is_number (sort_of high) ≡ true → IsNumberAt amperes high.text (Err refused) → RangeFault low high (refused_kind refused)
range_refused low high refused there is =
    let fault : NumberFault high.text (refused_kind refused) = (refused, is, refl) in
    (there, inl fault)

no_fall : (a b : ℤ) → a ≤ℤ b → b <ℤ a → ⊥
no_fall a b le lt = omega (arith, ints)

pub range_rises : HasOne → (low high : Token) (a : ℤ) (v : Value) → IsNumberAt amperes low.text (Ok a) → SaysAmps high.text v → a ≤ℤ amps_of v →
    FindsValue (RangeFault low high) (SaysHigh low high) (Ok v)
range_rises one low high a v is_a is_b le = (
  (λ kind h. elim h.1 [
    | inl f ↦ no_error f.0 (amps_of v) (one amperes high.text (Err f.0) (Ok (amps_of v)) f.1 is_b)
    | inr g ↦ (let falls = g.1 in
        no_fall a (amps_of v) le
        (subst (λ z. z <ℤ a) (one_value one high.text falls.1 (amps_of v) falls.3 is_b) (subst (λ z. falls.1 <ℤ z) (one_value one low.text falls.0 a falls.2 is_a) falls.4)))
  ]),
  (λ there. (is_b, (λ least is. subst (λ z. z ≤ℤ amps_of v) (one_value one low.text a least is_a is) le))),
)

-- Numbers in their places.
use Rattle.std.proofs.Common.{◌≡◌, ℕ, zero, suc, ◌↔◌, ◌⊎◌, inl, inr, Bool, true, false, ◌||◌, IsTrue, List, ℤ, pos, negsuc, ◌≤ℤ◌, ◌<ℤ◌, Result, Ok, Err, refl, sym, subst, ap, arith}
use Rattle.std.proofs.lemmas.Int.{ints}
use Rattle.fixed_decimal.specs.declared.error.DecimalError.{DecimalError}
use Rattle.fixed_decimal.specs.Number.{IsNegative}
use Rattle.fixed_decimal.specs.Value.{IsAnswer, StandsFor}
use Rattle.number_place.specs.declared.place.NumberForm.{NumberForm}
use Rattle.number_place.specs.declared.place.NumberForm.TheVariants.{Decimal, Scaled, Integer}
use Rattle.number_place.specs.declared.place.NumberSign.{NumberSign}
use Rattle.number_place.specs.declared.place.NumberSign.TheVariants.{Any, NotNegative, Positive}
use Rattle.number_place.specs.declared.place.NumberPlace.{NumberPlace}
use Rattle.number_place.specs.declared.place.Refused.{Refused}
use Rattle.number_place.specs.declared.place.Refused.TheVariants.{Syntax, Number}
use Rattle.number_place.specs.Place.{is_of, IsOtherSign, HasOtherSign, IsNumberAt, HasSign}
use Rattle.number_place.specs.inside.Number.{other_sign, told}

-- The test tells whether the text is a number of the form that is below 0.
abbrev pub TellsBelow : NumberForm → List ℕ → Bool → ℕ → ℕ → Result ℤ DecimalError → Type 0
TellsBelow form text below places limit answer = IsAnswer (is_of form) places limit text answer → IsTrue below ↔ StandsFor (is_of form) text IsNegative

pub below_by : (form : NumberForm) (text : List ℕ) (below : Bool) (places limit : ℕ) (answer : Result ℤ DecimalError) →
    TellsBelow Decimal text below places limit answer → TellsBelow Scaled text below places limit answer → TellsBelow Integer text below places limit answer →
    TellsBelow form text below places limit answer
below_by Decimal text below places limit answer decimal spice integer = decimal
below_by Scaled text below places limit answer decimal spice integer = spice
below_by Integer text below places limit answer decimal spice integer = integer

some_true : (a b : Bool) → (a || b) ≡ true → (a ≡ true) ⊎ (b ≡ true)
some_true true b h = inl refl
some_true false b h = inr h

no_other : false ≡ true → ⊥
no_other h = cc

or_true : (a b : Bool) → b ≡ true → (a || b) ≡ true
or_true true b h = refl
or_true false b h = h

-- What the test of the sign tells.
sign_by : (sign : NumberSign) (below none : Bool) (P Q : Type 0) → IsTrue below ↔ P → IsTrue none ↔ Q → IsTrue (other_sign sign below none) ↔ IsOtherSign sign P Q
sign_by Any below none P Q p q = ((λ h. absurd (no_other h)), (λ h. absurd h))
sign_by NotNegative below none P Q p q = p
sign_by Positive below none P Q p q = (
  (λ h. elim (some_true below none h) [ inl a ↦ inl (p.0 a) | inr b ↦ inr (q.0 b) ]),
  (λ h. elim h [ inl a ↦ ap (λ z. z || none) (p.1 a) | inr b ↦ or_true below none (q.1 b) ]),
)

-- The only answer to a text in a place.
abbrev pub IsOnly : NumberPlace → List ℕ → Result ℤ DecimalError → Type 0
IsOnly place text answer = (other : Result ℤ DecimalError) → IsAnswer (is_of place.form) place.places place.limit text other → other ≡ answer

pub sign_told : (place : NumberPlace) (text : List ℕ) (below none : Bool) (answer : Result ℤ DecimalError) → IsAnswer (is_of place.form) place.places place.limit text answer →
    IsOnly place text answer → TellsBelow place.form text below place.places place.limit answer → IsTrue none ↔ (answer ≡ Ok (pos 0)) →
    IsTrue (other_sign place.sign below none) ↔ HasOtherSign place text
sign_told place text below none answer is only tells nothing =
    sign_by place.sign below none (StandsFor (is_of place.form) text IsNegative) (IsAnswer (is_of place.form) place.places place.limit text (Ok (pos 0))) (tells is) (
      (λ h. subst (λ z. IsAnswer (is_of place.form) place.places place.limit text z) (nothing.0 h) is),
      (λ h. nothing.1 (sym (only (Ok (pos 0)) h))),
    )

pub number_told : (place : NumberPlace) (text : List ℕ) (answer : Result ℤ DecimalError) → (HasOtherSign place text → ⊥) →
    IsAnswer (is_of place.form) place.places place.limit text answer → IsNumberAt place text (told answer)
number_told place text (Ok value) fine is = (fine, is)
number_told place text (Err error) fine is = (fine, is)

pub only_other : (place : NumberPlace) (text : List ℕ) → HasOtherSign place text → (other : Result ℤ Refused) → IsNumberAt place text other → other ≡ Err Syntax
only_other place text h (Ok value) k = absurd (k.0 h)
only_other place text h (Err (Number error)) k = absurd (k.0 h)
only_other place text h (Err Syntax) k = refl

pub only_told : (place : NumberPlace) (text : List ℕ) (answer : Result ℤ DecimalError) → (HasOtherSign place text → ⊥) → IsOnly place text answer →
    (other : Result ℤ Refused) → IsNumberAt place text other → other ≡ told answer
only_told place text answer fine only (Ok value) k = ap told (only (Ok value) k.1)
only_told place text answer fine only (Err (Number error)) k = ap told (only (Err error) k.1)
only_told place text answer fine only (Err Syntax) k = absurd (fine k)

-- ## values

-- A value is not below 0 exactly where its number is not.
abbrev pub KeepsSign : NumberForm → List ℕ → Type 0
KeepsSign form text = (places limit : ℕ) (v : ℤ) → IsAnswer (is_of form) places limit text (Ok v) → (pos 0 ≤ℤ v) ↔ (StandsFor (is_of form) text IsNegative → ⊥)

keeps_by : (form : NumberForm) (text : List ℕ) → KeepsSign Decimal text → KeepsSign Scaled text → KeepsSign Integer text → KeepsSign form text
keeps_by Decimal text decimal spice integer = decimal
keeps_by Scaled text decimal spice integer = spice
keeps_by Integer text decimal spice integer = integer

above : (v : ℤ) → pos 0 ≤ℤ v → (v ≡ pos 0 → ⊥) → pos 0 <ℤ v
above (pos zero) h other = absurd (other refl)
above (pos (suc n)) h other = omega (arith, ints)
above (negsuc n) h other = absurd (omega (arith, ints))

sign_kept : (sign : NumberSign) (v : ℤ) (below zero_is : Type 0) → ((below → ⊥) → pos 0 ≤ℤ v) → (v ≡ pos 0 → zero_is) → (IsOtherSign sign below zero_is → ⊥) → HasSign sign v
sign_kept Any v below zero_is keeps nothing fine = tt
sign_kept NotNegative v below zero_is keeps nothing fine = keeps fine
sign_kept Positive v below zero_is keeps nothing fine = above v (keeps (λ h. fine (inl h))) (λ e. fine (inr (nothing e)))

pub has_sign : (place : NumberPlace) (text : List ℕ) (value : ℤ) → KeepsSign Decimal text → KeepsSign Scaled text → KeepsSign Integer text →
    IsNumberAt place text (Ok value) → HasSign place.sign value
has_sign place text value decimal spice integer h =
    sign_kept place.sign value (StandsFor (is_of place.form) text IsNegative) (IsAnswer (is_of place.form) place.places place.limit text (Ok (pos 0)))
    (keeps_by place.form text decimal spice integer place.places place.limit value h.1).1
    (λ e. subst (λ z. IsAnswer (is_of place.form) place.places place.limit text (Ok z)) e h.1) h.0

-- ## one answer

abbrev pub HasOne : NumberForm → List ℕ → Type 0
HasOne form text = (places limit : ℕ) (r s : Result ℤ DecimalError) → IsAnswer (is_of form) places limit text r → IsAnswer (is_of form) places limit text s → r ≡ s

one_by : (form : NumberForm) (text : List ℕ) → HasOne Decimal text → HasOne Scaled text → HasOne Integer text → HasOne form text
one_by Decimal text decimal spice integer = decimal
one_by Scaled text decimal spice integer = spice
one_by Integer text decimal spice integer = integer

once : (place : NumberPlace) (text : List ℕ) → HasOne place.form text → (r s : Result ℤ Refused) → IsNumberAt place text r → IsNumberAt place text s → r ≡ s
once place text one (Ok v) (Ok w) h k = ap told (one place.places place.limit (Ok v) (Ok w) h.1 k.1)
once place text one (Ok v) (Err (Number e)) h k = ap told (one place.places place.limit (Ok v) (Err e) h.1 k.1)
once place text one (Err (Number e)) (Ok w) h k = ap told (one place.places place.limit (Err e) (Ok w) h.1 k.1)
once place text one (Err (Number e)) (Err (Number f)) h k = ap told (one place.places place.limit (Err e) (Err f) h.1 k.1)
once place text one (Err Syntax) (Err Syntax) h k = refl
once place text one (Err Syntax) (Ok w) h k = absurd (k.0 h)
once place text one (Err Syntax) (Err (Number f)) h k = absurd (k.0 h)
once place text one (Ok v) (Err Syntax) h k = absurd (h.0 k)
once place text one (Err (Number e)) (Err Syntax) h k = absurd (h.0 k)

pub number_once : (place : NumberPlace) (text : List ℕ) (r s : Result ℤ Refused) → HasOne Decimal text → HasOne Scaled text → HasOne Integer text →
    IsNumberAt place text r → IsNumberAt place text s → r ≡ s
number_once place text r s decimal spice integer h k = once place text (one_by place.form text decimal spice integer) r s h k

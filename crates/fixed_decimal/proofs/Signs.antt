-- The sign of a number, by its text and by its value.
use Rattle.std.proofs.Common.{◌≡◌, ℕ, zero, suc, ◌+◌, ◌*◌, ◌^◌, ◌<◌, ◌↔◌, IsTrue, Bool, true, false, ◌&&◌, List, [], ◌∷◌, ◌++◌, length, ℤ, pos, negsuc, ◌≤ℤ◌, Option, Some, None, Ok, Err, arith, ap, sym, ◌∙◌, refl, subst}
use Rattle.std.specs.Prelude.{int_lt}
use Rattle.std.proofs.lemmas.Int.{ints}
use Rattle.std.specs.Str.Parse.{AllDigits}
use Rattle.std.proofs.lemmas.Bool.{ne_eqb, le-ltb}
use Rattle.std.proofs.lemmas.List.{append-nil}
use Rattle.std.proofs.lemmas.Str.Parse.{digit_from_value}
use Rattle.fixed_decimal.specs.declared.error.DecimalError.{DecimalError}
use Rattle.fixed_decimal.specs.declared.error.DecimalError.TheVariants.{NotNumber, Vanishes as VanishesError, Range}
use Rattle.fixed_decimal.specs.Number.{Sign, absent, plus, minus, sign_text, is_minus, fraction_text, fraction_digits, exponent_text, Number, IsSpelling, Spelling, spelling_text, IsDecimal, IsNegative, begins_minus}
use Rattle.fixed_decimal.specs.Spice.{IsSpice}
use Rattle.fixed_decimal.specs.Value.{IsNearest, stands_for_number, StandsFor, IsAnswer, signed}
use Rattle.fixed_decimal.proofs.Rounding.{nearest_unique}

begins_of : (sign : Sign) (whole : List ℕ) (fraction : Option (List ℕ)) (after rest : List ℕ) → AllDigits 10 whole → 0 < length whole + length (fraction_digits fraction) →
    is_minus sign ≡ begins_minus ((sign_text sign ++ (whole ++ (fraction_text fraction ++ after))) ++ rest)
begins_of minus whole fraction after rest d some = refl
begins_of plus whole fraction after rest d some = refl
begins_of absent [] None after rest d some = absurd (omega arith)
begins_of absent [] (Some digits) after rest d some = refl
begins_of absent (c ∷ cs) fraction after rest d some = sym (ne_eqb c 45 (λ e. omega (arith, digit_from_value c d.0)))

spelled : (s : Spelling) (rest : List ℕ) → IsSpelling s → is_minus s.sign ≡ begins_minus (spelling_text s ++ rest)
spelled s rest h = begins_of s.sign s.whole s.fraction (exponent_text s.exponent) rest h.whole h.some

pub decimal_sign : (text : List ℕ) (n : Number) → IsDecimal text n → n.negative ≡ begins_minus text
decimal_sign text n a =
    ap (λ z. z.negative) a.value ∙ (spelled a.spelling [] a.form ∙ ap begins_minus (append-nil (spelling_text a.spelling) ∙ sym a.is))

pub spice_sign : (text : List ℕ) (n : Number) → IsSpice text n → n.negative ≡ begins_minus text
spice_sign text n a =
    ap (λ z. z.negative) a.value ∙ (spelled a.spelling a.letters a.form ∙ ap begins_minus (sym a.is))

some : (d m : ℕ) → 2 * 0 + d < 2 * ((m + 1) * d) → 0 < d
some zero m h = absurd (omega arith)
some (suc d) m h = omega arith

-- Nothing is nearest to nothing.
nothing : (d m : ℕ) → IsNearest 0 d m → m ≡ 0
nothing d m h = let n = some d m h.below in nearest_unique 0 d m 0 h (record { reached = omega arith; below = omega arith })

-- A value that is not nothing is that of a number that is not nothing.
counts : (a p d m : ℕ) → IsNearest (a * p) d m → 0 < m → 0 < a
counts zero p d m h some = let z : zero * p ≡ 0 = omega arith in let e = nothing d m (subst (λ z. IsNearest z d m) z h) in absurd (omega arith)
counts (suc a) p d m h some = omega arith

no : false ≡ true → ⊥
no h = cc

int_lt_pos : (m : ℕ) → int_lt (pos m) (pos 0) ≡ false
int_lt_pos zero = refl
int_lt_pos (suc m) = le-ltb (suc m) 0 (omega arith)

below : (b : Bool) (m : ℕ) → int_lt (signed b m) (pos 0) ≡ true → (b ≡ true) × (0 < m)
below false m h = absurd (no (sym (int_lt_pos m) ∙ h))
below true zero h = absurd (no h)
below true (suc m) h = (refl, omega arith)

is_below : (b : Bool) (m : ℕ) → b ≡ true → (signed b m ≡ pos 0 → ⊥) → int_lt (signed b m) (pos 0) ≡ true
is_below false m e h = absurd (no e)
is_below true zero e h = absurd (h refl)
is_below true (suc m) e h = refl

positive : (n : ℕ) → n ≡ 0 → 0 < n → ⊥
positive n e h = omega arith

module _ (form : List ℕ → Number → Type 0) (text : List ℕ) (unique : (m n : Number) → form text m → form text n → m ≡ n)
    (sign : (n : Number) → form text n → n.negative ≡ begins_minus text) (places limit : ℕ) where
  pub of_value : (v : ℤ) → IsAnswer form places limit text (Ok v) → IsTrue (int_lt v (pos 0)) ↔ StandsFor form text IsNegative
  of_value v a =
      let n = a.0 in
      let r = a.2 in
      let is : int_lt v (pos 0) ≡ int_lt (signed n.negative r.value.magnitude) (pos 0) = ap (λ z. int_lt z (pos 0)) r.value.is in (
        (λ h. let b = below n.negative r.value.magnitude (sym is ∙ h) in (n, a.1, (b.0, counts n.numerator (10 ^ places) n.denominator r.value.magnitude r.value.nearest b.1))),
        (λ s. let negative : IsNegative n = subst IsNegative (unique s.0 n s.1 a.1) s.2 in
            is ∙ is_below n.negative r.value.magnitude negative.0 (λ z. positive n.numerator (r.stays (r.value.is ∙ z)) negative.1)),
      )

  pub not_below : (v : ℤ) → IsAnswer form places limit text (Ok v) → (pos 0 ≤ℤ v) ↔ (StandsFor form text IsNegative → ⊥)
  not_below (pos n) a = ((λ h s. no (sym (int_lt_pos n) ∙ (of_value (pos n) a).1 s)), (λ h. omega (arith, ints)))
  not_below (negsuc n) a = ((λ h. absurd (omega (arith, ints))), (λ h. absurd (h ((of_value (negsuc n) a).0 refl))))

  refused : (n : Number) → form text n → 0 < n.numerator → IsTrue (begins_minus text) ↔ StandsFor form text IsNegative
  refused n is some = (
    (λ h. (n, is, (sign n is ∙ h, some))),
    (λ s. sym (sign s.0 s.1) ∙ s.2.0),
  )

  pub of_error : (e : DecimalError) → IsAnswer form places limit text (Err e) → IsTrue (stands_for_number e && begins_minus text) ↔ StandsFor form text IsNegative
  of_error NotNumber a = ((λ h. absurd (no h)), (λ s. absurd (a s.0 s.1)))
  of_error VanishesError a = refused a.0 a.1 a.2.other
  of_error Range a = let high = a.2.above in refused a.0 a.1 (counts a.0.numerator (10 ^ places) a.0.denominator a.2.magnitude a.2.nearest (omega arith))

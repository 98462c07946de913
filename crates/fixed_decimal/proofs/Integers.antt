-- Whole numbers are decimal numbers.
use Rattle.std.proofs.Common.{◌≡◌, ℕ, ◌*◌, ◌^◌, ◌<◌, ◌↔◌, IsTrue, Bool, true, false, ◌&&◌, ◌==◌, if◌then◌else◌, List, [], ◌∷◌, ◌++◌, length, codes, ℤ, Result, Ok, Err, None, arith, ap, sym, ◌∙◌, refl, subst}
use Rattle.std.specs.List.{list_all}
use Rattle.std.specs.Char.{is_ascii_digit, IsAsciiDigit}
use Rattle.std.specs.Str.Parse.{AllDigits, IsNumeral, digits_value}
use Rattle.std.proofs.lemmas.Bool.{ne_eqb}
use Rattle.std.proofs.lemmas.List.{append-nil}
use Rattle.std.proofs.lemmas.Str.Parse.{digit_from_value}
use Rattle.fixed_decimal.specs.declared.error.DecimalError.{DecimalError}
use Rattle.fixed_decimal.specs.declared.error.DecimalError.TheVariants.{NotNumber, Vanishes as VanishesError, Range}
use Rattle.fixed_decimal.specs.Number.{Number, Spelling, absent, minus, IsDecimal, begins_minus}
use Rattle.fixed_decimal.specs.Integer.{IsInteger}
use Rattle.fixed_decimal.specs.Value.{Vanishes, IsAbove, IsWithin, IsAnswer}
use Rattle.fixed_decimal.specs.inside.Split.{after_minus}
use Rattle.fixed_decimal.proofs.Runs.{digit_below}
use Rattle.fixed_decimal.proofs.Signs.{decimal_sign}
use Rattle.fixed_decimal.proofs.TextLaws.{decimal_unique}

both : (a b : Bool) → (a && b) ≡ true → (a ≡ true) × (b ≡ true)
both true true h = (refl, refl)
both true false h = (refl, h)
both false b h = cc

digits_are : (text : List ℕ) → list_all is_ascii_digit text ≡ true → AllDigits 10 text
digits_are [] h = tt
digits_are (c ∷ cs) h = let t = both (is_ascii_digit c) (list_all is_ascii_digit cs) h in (digit_below c (grind (arith, t.0)), digits_are cs t.1)

digit_is : (c : ℕ) → IsAsciiDigit c → is_ascii_digit c ≡ true
digit_is c h = grind arith

are_digits : (text : List ℕ) → AllDigits 10 text → list_all is_ascii_digit text ≡ true
are_digits [] h = refl
are_digits (c ∷ cs) h =
    ap (λ z. z && list_all is_ascii_digit cs) (digit_is c (digit_from_value c h.0)) ∙ are_digits cs h.1

integer_by : (c : ℕ) (cs : List ℕ) (b : Bool) → (c == 45) ≡ b → IsNumeral 10 (if b then cs else (c ∷ cs)) → (number : Number) × IsInteger (c ∷ cs) number
integer_by c cs true e h =
    let same : c ≡ 45 = grind (arith, e) in
    (record { negative = true; numerator = digits_value 10 cs; denominator = 1 }, record { negative = true; digits = cs; form = h; is = ap (λ z. z ∷ cs) same; value = refl })
integer_by c cs false e h =
    (record { negative = false; numerator = digits_value 10 (c ∷ cs); denominator = 1 }, record { negative = false; digits = c ∷ cs; form = h; is = refl; value = refl })

integer_of : (text : List ℕ) → IsNumeral 10 (after_minus text) → (number : Number) × IsInteger text number
integer_of [] h = absurd (omega (arith, h.0))
integer_of (c ∷ cs) h = integer_by c cs (c == 45) refl h

no_minus : (digits : List ℕ) → IsNumeral 10 digits → IsNumeral 10 (after_minus digits)
no_minus [] h = absurd (omega (arith, h.0))
no_minus (c ∷ cs) h =
    let other : (c == 45) ≡ false = ne_eqb c 45 (λ e. omega (arith, digit_from_value c h.1.0)) in
    subst (λ z. IsNumeral 10 (if z then cs else (c ∷ cs))) (sym other) h

digits_by : (text digits : List ℕ) (negative : Bool) → text ≡ (if negative then codes "-" else []) ++ digits → IsNumeral 10 digits → IsNumeral 10 (after_minus text)
digits_by text digits true e h = subst (λ z. IsNumeral 10 (after_minus z)) (sym e) h
digits_by text digits false e h = subst (λ z. IsNumeral 10 (after_minus z)) (sym e) (no_minus digits h)

-- The test of a text tells whether it is a whole number.
pub tells : (text digits : List ℕ) (all : Bool) → digits ≡ after_minus text → 0 < length digits → all ≡ list_all is_ascii_digit digits →
    IsTrue all ↔ ((number : Number) × IsInteger text number)
tells text digits all e some g = (
  (λ h. integer_of text (subst (λ z. IsNumeral 10 z) e (some, digits_are digits (sym g ∙ h)))),
  (λ s. g ∙ are_digits digits (subst (λ z. IsNumeral 10 z) (sym e) (digits_by text s.1.digits s.1.negative s.1.is s.1.form)).1),
)

-- ## a whole number is a decimal number

abbrev number_with : Bool → ℕ → Number
number_with negative n = record { negative = negative; numerator = n; denominator = 1 }

decimal_by : (text : List ℕ) (number : Number) (negative : Bool) (digits : List ℕ) → text ≡ (if negative then codes "-" else []) ++ digits → IsNumeral 10 digits →
    number ≡ record { negative = negative; numerator = digits_value 10 digits; denominator = 1 } → IsDecimal text number
decimal_by text number true digits e h v =
    let spelling : Spelling = record { sign = minus; whole = digits; fraction = None; exponent = None } in
    let nil : digits ++ [] ≡ digits = append-nil digits in
    record {
      spelling = spelling;
      form = record { whole = h.1; fraction = tt; some = (let some = h.0 in omega arith); exponent = tt };
      is = e ∙ ap (λ z. codes "-" ++ z) (sym nil);
      value = v ∙ ap (λ (z : List ℕ). number_with true (digits_value 10 z)) (sym nil) ∙ ap (number_with true) (let one : digits_value 10 (digits ++ []) ≡ digits_value 10 (digits ++ []) * 10 ^ 0 = omega arith in one);
    }
decimal_by text number false digits e h v =
    let spelling : Spelling = record { sign = absent; whole = digits; fraction = None; exponent = None } in
    let nil : digits ++ [] ≡ digits = append-nil digits in
    record {
      spelling = spelling;
      form = record { whole = h.1; fraction = tt; some = (let some = h.0 in omega arith); exponent = tt };
      is = e ∙ sym nil;
      value = v ∙ ap (λ (z : List ℕ). number_with false (digits_value 10 z)) (sym nil) ∙ ap (number_with false) (let one : digits_value 10 (digits ++ []) ≡ digits_value 10 (digits ++ []) * 10 ^ 0 = omega arith in one);
    }

pub integer_decimal : (text : List ℕ) (number : Number) → IsInteger text number → IsDecimal text number
integer_decimal text number h = decimal_by text number h.negative h.digits h.is h.form h.value

pub integer_unique : (text : List ℕ) (m n : Number) → IsInteger text m → IsInteger text n → m ≡ n
integer_unique text m n a b = decimal_unique text m n (integer_decimal text m a) (integer_decimal text n b)

pub integer_sign : (text : List ℕ) (n : Number) → IsInteger text n → n.negative ≡ begins_minus text
integer_sign text n a = decimal_sign text n (integer_decimal text n a)

-- The answer to a decimal number that is a whole number.
pub integer_answer : (places limit : ℕ) (text : List ℕ) (n : Number) → IsInteger text n → (r : Result ℤ DecimalError) → IsAnswer IsDecimal places limit text r → IsAnswer IsInteger places limit text r
integer_answer places limit text n is (Ok v) a = (n, is, subst (λ z. IsWithin z places limit v) (decimal_unique text a.0 n a.1 (integer_decimal text n is)) a.2)
integer_answer places limit text n is (Err NotNumber) a = absurd (a n (integer_decimal text n is))
integer_answer places limit text n is (Err VanishesError) a = (n, is, subst (λ z. Vanishes z places) (decimal_unique text a.0 n a.1 (integer_decimal text n is)) a.2)
integer_answer places limit text n is (Err Range) a = (n, is, subst (λ z. IsAbove z places limit) (decimal_unique text a.0 n a.1 (integer_decimal text n is)) a.2)

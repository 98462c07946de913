-- Voltages of few digits, and voltages that are printed.
use Rattle.std.proofs.Common.{◌≡◌, not, cond, ℕ, zero, suc, ◌+◌, ◌-◌, ◌*◌, ◌^◌, ◌<◌, ◌≤◌, Bool, true, false, if◌then◌else◌, ℤ, pos, List, [], ◌∷◌, ◌++◌, length, take, drop, get_or, codes, Ok, refl, sym, ◌∙◌, ap, subst, arith, rules, Fits, w8, w64, to_z, of_z}
use Rattle.std.proofs.Math.Nat.{pow-suc}
use Rattle.std.specs.Prelude.{unsigned_abs, negsuc, int_lt, ◌/◌, decimal}
use Rattle.std.specs.Int.{w128}
use Rattle.std.proofs.lemmas.Int.{to_z-of_z, fits_signed_from_abs}
use Rattle.std.specs.Char.{digit_value}
use Rattle.std.specs.Str.Parse.{AllDigits, IsNumeral, digits_value, digits_value_after}
use Rattle.std.specs.Char.{IsAsciiDigit, is_ascii_digit}
use Rattle.std.specs.List.{count_by}
use Rattle.std.proofs.lemmas.List.Sums.{sum_by-cons}
use Rattle.std.proofs.lemmas.Str.{digit_value_digit}
use Rattle.std.proofs.lemmas.Fmt.{decimal_is_IsNumeral_wide}
use Rattle.std.proofs.lemmas.Str.Parse.{digits_value_short, numerals_by_value, tells_digits}
use Rattle.std.proofs.lemmas.Int.Digits.{digits_more, digits_value_more}
use Rattle.std.proofs.lemmas.List.{take-append-drop, append-nil, length-take, length-drop, take_all}
use native.Mathlib.Decide.{dec_le}
use Rattle.std.proofs.lemmas.Bool.{le-ltb}
use Rattle.fixed_decimal.specs.Value.{IsNearest, IsWithin, signed}
use Rattle.fixed_decimal.specs.Printed.{printed}
use Rattle.certificate_file.specs.Voltage.{limit, IsVoltage}

spread : (n d p v q : ℕ) → q ≡ p * 10 → (n * 10 + d) * p + v ≡ n * q + ((0 * 10 + d) * p + v)
spread n d p v q e = rw e (omega arith)

after_is : (n : ℕ) (ds : List ℕ) → digits_value_after 10 n ds ≡ n * 10 ^ length ds + digits_value 10 ds
after_is n [] = omega arith
after_is n (d ∷ ds) =
    let p = 10 ^ length ds in
    let v = digits_value 10 ds in
    let one : digits_value_after 10 n (d ∷ ds) ≡ (n * 10 + digit_value d) * p + v = after_is (n * 10 + digit_value d) ds in
    let two : digits_value 10 (d ∷ ds) ≡ (0 * 10 + digit_value d) * p + v = after_is (0 * 10 + digit_value d) ds in
    let power : 10 ^ length (d ∷ ds) ≡ p * 10 = pow-suc 10 (length ds) in
    one ∙ spread n (digit_value d) p v (10 ^ length (d ∷ ds)) power ∙ ap (λ z. n * 10 ^ length (d ∷ ds) + z) (sym two)

after_append : (n : ℕ) (xs ys : List ℕ) → digits_value_after 10 n (xs ++ ys) ≡ digits_value_after 10 (digits_value_after 10 n xs) ys
after_append n [] ys = refl
after_append n (x ∷ xs) ys = after_append (n * 10 + digit_value x) xs ys

pub value_append : (xs ys : List ℕ) → digits_value 10 (xs ++ ys) ≡ digits_value 10 xs * 10 ^ length ys + digits_value 10 ys
value_append xs ys = after_append 0 xs ys ∙ after_is (digits_value 10 xs) ys

pub abs_signed : (negative : Bool) (m : ℕ) → unsigned_abs (signed negative m) ≡ m
abs_signed false m = refl
abs_signed true zero = refl
abs_signed true (suc m) = refl

pub kept_128 : (v : ℤ) → unsigned_abs v ≤ 10 ^ 37 → to_z w128 (of_z w128 v) ≡ v
kept_128 v h = to_z-of_z w128 v (fits_signed_from_abs w128 v (omega arith))

nearest_whole : (n : ℕ) → IsNearest (n * 10 ^ 0) 1 n
nearest_whole n = record { reached = omega arith; below = omega arith }

is_within : (negative : Bool) (n : ℕ) → n ≤ limit → IsWithin (record { negative = negative; numerator = n; denominator = 1 }) 0 limit (signed negative n)
is_within negative n most =
    let abs : unsigned_abs (signed negative n) ≡ n = abs_signed negative n in
    record {
      value = record { magnitude = n; nearest = nearest_whole n; is = refl };
      within = omega arith;
      stays = λ e. sym abs ∙ ap unsigned_abs e;
    }

-- A minus or none, and digits whose number is within the limit, are the voltage of this number.
pub numeral_is : (negative : Bool) (digits : List ℕ) → IsNumeral 10 digits → digits_value 10 digits ≤ limit →
    IsVoltage ((if negative then codes "-" else []) ++ digits) (Ok (signed negative (digits_value 10 digits)))
numeral_is negative digits form most = (
  record { negative = negative; numerator = digits_value 10 digits; denominator = 1 },
  record { negative = negative; digits = digits; form = form; is = refl; value = refl },
  is_within negative (digits_value 10 digits) most,
)

-- The number of at most so many digits.
pub value_short : (digits : List ℕ) (k : ℕ) → AllDigits 10 digits → length digits ≤ k → digits_value 10 digits < 10 ^ k
value_short digits k all short = digits_value_short (numerals_by_value _ tells_digits) digits k all short

-- One more digit, of at most 19.
pub record SoFar (digits : List ℕ) (i number : ℕ) : Type 0 where
  pub all : AllDigits 10 (take i digits)
  pub is : number ≡ digits_value 10 (take i digits)

pub so_far_below : (digits : List ℕ) (i number : ℕ) → SoFar digits i number → i < length digits → length digits ≤ 19 → number < 10 ^ 18
so_far_below digits i number h inside few =
    let short : length (take i digits) ≤ 18 = omega (arith, length-take i digits) in
    let below = value_short (take i digits) 18 h.all short in
    let e = h.is in omega arith

digit_is : (c : ℕ) → IsAsciiDigit c → digit_value c ≡ c - 48
digit_is c h = let e = digit_value_digit c h in omega arith

pub one_more : (digits : List ℕ) (i number : ℕ) → SoFar digits i number → i < length digits → IsAsciiDigit (get_or digits i 0) →
    SoFar digits (i + 1) (number * 10 + (get_or digits i 0 - 48))
one_more digits i number h inside digit =
    let c = get_or digits i 0 in
    let value : digit_value c ≡ c - 48 = digit_is c digit in
    let small : digit_value c < 10 = (let e = digit_value_digit c digit in omega arith) in
    record {
      all = digits_more 10 digits i inside h.all small;
      is = ap (λ z. number * 10 + z) (sym value) ∙ ap (λ z. z * 10 + digit_value c) h.is ∙ sym (digits_value_more 10 digits i inside);
    }

pub room_for_digit : (number byte digit : ℕ) → number < 10 ^ 18 → Fits w8 byte → digit ≡ byte - 48 → Fits w64 (number * 10 + digit)
room_for_digit number byte digit below fits e = search rules

-- Digits in two parts.
pub all_append : (xs ys : List ℕ) → AllDigits 10 xs → AllDigits 10 ys → AllDigits 10 (xs ++ ys)
all_append [] ys h k = k
all_append (x ∷ xs) ys h k = (h.0, all_append xs ys h.1 k)

pub parts_all : (digits : List ℕ) (at : ℕ) → AllDigits 10 (take at digits) → AllDigits 10 (drop at digits) → AllDigits 10 digits
parts_all digits at h k = subst (λ z. AllDigits 10 z) (take-append-drop at digits) (all_append (take at digits) (drop at digits) h k)

pub parts_value : (digits : List ℕ) (at : ℕ) → digits_value 10 digits ≡ digits_value 10 (take at digits) * 10 ^ length (drop at digits) + digits_value 10 (drop at digits)
parts_value digits at = ap (λ z. digits_value 10 z) (sym (take-append-drop at digits)) ∙ value_append (take at digits) (drop at digits)

-- The front is empty, or eighteen digits follow it.
two_parts : (digits : List ℕ) (at front back : ℕ) → at ≡ length digits - 18 → front ≡ digits_value 10 (take at digits) → back ≡ digits_value 10 (drop at digits) →
    front * 10 ^ 18 + back ≡ digits_value 10 digits
two_parts digits at front back e f b =
    let back_length : length (drop at digits) ≡ length digits - at = length-drop at digits in
    elim (dec_le (length digits) 18) [
      | Prim.yes few ↦
          let none : at ≡ 0 = omega arith in
          let front_none : front ≡ 0 = f ∙ ap (λ z. digits_value 10 (take z digits)) none in
          let back_all : back ≡ digits_value 10 digits = b ∙ ap (λ z. digits_value 10 (drop z digits)) none in
          omega arith
      | Prim.no many ↦
          let eighteen : length (drop at digits) ≡ 18 = omega arith in
          let whole = parts_value digits at ∙ ap (λ z. digits_value 10 (take at digits) * 10 ^ z + digits_value 10 (drop at digits)) eighteen in
          ap (λ z. z * 10 ^ 18 + back) f ∙ ap (λ z. digits_value 10 (take at digits) * 10 ^ 18 + z) b ∙ sym whole
    ]

-- The two parts as slices.
rest_all : (digits : List ℕ) (at : ℕ) → take (length digits - at) (drop at digits) ≡ drop at digits
rest_all digits at = take_all (length digits - at) (drop at digits) (omega (arith, length-drop at digits))

pub slices_all : (digits : List ℕ) (at : ℕ) → AllDigits 10 (take at digits) → AllDigits 10 (take (length digits - at) (drop at digits)) → AllDigits 10 digits
slices_all digits at h k = parts_all digits at h (subst (λ z. AllDigits 10 z) (rest_all digits at) k)

pub slices_value : (digits : List ℕ) (at front back : ℕ) → at ≡ length digits - 18 → front ≡ digits_value 10 (take at digits) → back ≡ digits_value 10 (take (length digits - at) (drop at digits)) →
    front * 10 ^ 18 + back ≡ digits_value 10 digits
slices_value digits at front back e f b = two_parts digits at front back e f (b ∙ ap (λ z. digits_value 10 z) (rest_all digits at))

-- What is printed of a voltage is its text.
over_one : (n : ℕ) → n / 10 ^ 0 ≡ n
over_one n = omega arith

printed_as : (negative : Bool) (n : ℕ) → n ≤ limit → IsVoltage ((if negative then codes "-" else []) ++ (decimal (n / 10 ^ 0) ++ [])) (Ok (signed negative n))
printed_as negative n most =
    let d = decimal_is_IsNumeral_wide n (omega arith) in
    let text : (if negative then codes "-" else []) ++ decimal n ≡ (if negative then codes "-" else []) ++ (decimal (n / 10 ^ 0) ++ []) =
    ap (λ z. (if negative then codes "-" else []) ++ z) (sym (append-nil (decimal (n / 10 ^ 0)) ∙ ap decimal (over_one n))) in
    let is = numeral_is negative (decimal n) d.0 (let v = d.1 in omega arith) in
    subst (λ z. IsVoltage z (Ok (signed negative n))) text (subst (λ z. IsVoltage ((if negative then codes "-" else []) ++ decimal n) (Ok (signed negative z))) d.1 is)

not_below : (n : ℕ) → int_lt (pos n) (pos 0) ≡ false
not_below zero = refl
not_below (suc n) = le-ltb (suc n) 0 (omega arith)

pub printed_is : (v : ℤ) → unsigned_abs v ≤ limit → IsVoltage (printed v 0) (Ok v)
printed_is (pos n) h = subst (λ z. IsVoltage ((if z then codes "-" else []) ++ (decimal (n / 10 ^ 0) ++ [])) (Ok (pos n))) (sym (not_below n)) (printed_as false n h)
printed_is (negsuc n) h = printed_as true (suc n) h

-- A text in which no byte is none of the digits.
no_other_by : (c : ℕ) (others : ℕ) (is : Bool) → is_ascii_digit c ≡ is → cond (not is) 1 0 + others ≡ 0 → (digit_value c < 10) × (others ≡ 0)
no_other_by c others true e h = (let digit : IsAsciiDigit c = grind (arith, e) in let v = digit_value_digit c digit in omega arith, omega arith)
no_other_by c others false e h = absurd (omega arith)

pub no_other : (text : List ℕ) → count_by (λ c. not (is_ascii_digit c)) text ≡ 0 → AllDigits 10 text
no_other [] h = tt
no_other (c ∷ cs) h =
    let none = no_other_by c (count_by (λ c. not (is_ascii_digit c)) cs) (is_ascii_digit c) refl (sym (sum_by-cons (λ x. cond (not (is_ascii_digit x)) 1 0) c cs) ∙ h) in
    (none.0, no_other cs none.1)

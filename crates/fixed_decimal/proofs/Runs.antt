-- A run of digits at the front of a text.
use Rattle.std.proofs.Common.{◌≡◌, ℕ, ◌+◌, ◌-◌, ◌*◌, ◌^◌, ◌<◌, ◌≤◌, false, List, [], ◌∷◌, ◌++◌, length, take, get_or, arith, ap, sym, ◌∙◌, refl, subst}
use Rattle.std.specs.Str.Parse.{AllDigits, digits_value, digits_value_after}
use Rattle.std.specs.Char.{digit_value, is_ascii_digit, IsAsciiDigit}
use Rattle.std.proofs.lemmas.Int.Digits.{digits_more}
use Rattle.std.proofs.lemmas.Str.{digit_value_digit}
use Rattle.std.proofs.lemmas.List.{take_more, drop_more, drop_all}
use Rattle.fixed_decimal.specs.declared.digits.Digits.{Digits}
use Rattle.fixed_decimal.specs.inside.Kept.{Keeps, IsCapped}
use Rattle.fixed_decimal.specs.inside.Split.{IsRun, begins_digit}
use Rattle.fixed_decimal.proofs.Keeping.{capped_more, capped_on}

-- Digits after digits.
pub value_after_append : (n : ℕ) (xs ys : List ℕ) → digits_value_after 10 n (xs ++ ys) ≡ digits_value_after 10 (digits_value_after 10 n xs) ys
value_after_append n [] ys = refl
value_after_append n (x ∷ xs) ys = value_after_append (n * 10 + digit_value x) xs ys

pub value_after_more : (n : ℕ) (text : List ℕ) (i : ℕ) → i < length text → digits_value_after 10 n (take (i + 1) text) ≡ digits_value_after 10 n (take i text) * 10 + digit_value (get_or text i 0)
value_after_more n text i h = ap (digits_value_after 10 n) (take_more text i 0 h) ∙ value_after_append n (take i text) (get_or text i 0 ∷ [])

-- A digit's value.
pub value_of_digit : (c : ℕ) → IsAsciiDigit c → digit_value c ≡ c - 48
value_of_digit c h = let e = digit_value_digit c h in omega arith

pub digit_below : (c : ℕ) → IsAsciiDigit c → digit_value c < 10
digit_below c h = let e = digit_value_digit c h in omega arith

-- The digits so far are all digits.
pub run_more : (text : List ℕ) (i : ℕ) → i < length text → IsAsciiDigit (get_or text i 0) → AllDigits 10 (take i text) → AllDigits 10 (take (i + 1) text)
run_more text i h digit run = digits_more 10 text i h run (digit_below (get_or text i 0) digit)

-- Where the run ends.
pub run_ends : (text : List ℕ) (i : ℕ) → i < length text → is_ascii_digit (get_or text i 0) ≡ false → AllDigits 10 (take i text) → IsRun text i
run_ends text i h other run = record {
  within = omega arith;
  digits = run;
  ends = ap begins_digit (drop_more text i 0 h) ∙ other;
}

pub run_whole : (text : List ℕ) (n : ℕ) → n ≡ length text → AllDigits 10 (take n text) → IsRun text n
run_whole text n h run = record {
  within = omega arith;
  digits = run;
  ends = ap begins_digit (drop_all n text (omega arith));
}

-- The digits that are read so far, after those of before.
pub record DigitsSoFar (before : Digits) (text : List ℕ) (i : ℕ) (digits : Digits) : Type 0 where
  pub form : AllDigits 10 (take i text)
  pub keeps : (n : ℕ) → Keeps n before → Keeps (digits_value_after 10 n (take i text)) digits
  pub count : digits.dropped ≤ before.dropped + i

-- The exponent that is read so far.
pub record ExponentSoFar (text : List ℕ) (i value : ℕ) : Type 0 where
  pub form : AllDigits 10 (take i text)
  pub capped : IsCapped (digits_value 10 (take i text)) value
  pub fits : value < 10 ^ 22

-- One digit more is read.
pub digits_step : (before : Digits) (text : List ℕ) (i : ℕ) (digits next : Digits) → i < length text → IsAsciiDigit (get_or text i 0) → DigitsSoFar before text i digits → ((n : ℕ) → Keeps n digits → Keeps (n * 10 + (get_or text i 0 - 48)) next) → next.dropped ≤ digits.dropped + 1 → DigitsSoFar before text (i + 1) next
digits_step before text i digits next within digit so_far keeps count = record {
  form = run_more text i within digit so_far.form;
  keeps = λ n k.
      let P : ℕ → Type 0 = λ x. Keeps (digits_value_after 10 n (take i text) * 10 + x) next in
      let Q : ℕ → Type 0 = λ x. Keeps x next in
      subst Q (sym (value_after_more n text i within))
      (subst P (sym (value_of_digit (get_or text i 0) digit)) (keeps (digits_value_after 10 n (take i text)) (so_far.keeps n k)));
  count = let so = so_far.count in omega arith;
}

pub exponent_step : (text : List ℕ) (i value : ℕ) → i < length text → IsAsciiDigit (get_or text i 0) → value < 10 ^ 21 → ExponentSoFar text i value → ExponentSoFar text (i + 1) (value * 10 + (get_or text i 0 - 48))
exponent_step text i value within digit less so_far = record {
  form = run_more text i within digit so_far.form;
  capped =
      let P : ℕ → Type 0 = λ x. IsCapped (digits_value 10 (take i text) * 10 + x) (value * 10 + (get_or text i 0 - 48)) in
      let Q : ℕ → Type 0 = λ x. IsCapped x (value * 10 + (get_or text i 0 - 48)) in
      subst Q (sym (value_after_more 0 text i within))
      (subst P (sym (value_of_digit (get_or text i 0) digit)) (capped_more (digits_value 10 (take i text)) (get_or text i 0 - 48) value less so_far.capped));
  fits = let high = digit.1 in omega arith;
}

pub exponent_stays : (text : List ℕ) (i value : ℕ) → i < length text → IsAsciiDigit (get_or text i 0) → 10 ^ 21 ≤ value → ExponentSoFar text i value → ExponentSoFar text (i + 1) value
exponent_stays text i value within digit more so_far = record {
  form = run_more text i within digit so_far.form;
  capped =
      let Q : ℕ → Type 0 = λ x. IsCapped x value in
      subst Q (sym (value_after_more 0 text i within)) (capped_on (digits_value 10 (take i text)) (digit_value (get_or text i 0)) value more so_far.capped);
  fits = so_far.fits;
}

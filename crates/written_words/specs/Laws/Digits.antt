-- Whole numbers as they are written: words of DEF, and what they are read as.
use Rattle.std.proofs.Common.{◌≡◌, ℕ, zero, suc, ◌*◌, ◌^◌, ◌<◌, ◌≤◌, ◌==◌, ◌&&◌, ◌||◌, not, Bool, true, false, if◌then◌else◌, ℤ, pos, List, [], ◌∷◌, ◌++◌, length, codes, Result, Ok, refl, sym, ◌∙◌, ap, subst, arith, inl, inr}
use Rattle.std.specs.Prelude.{IsTrue, ◌↔◌, slice_index, unsigned_abs, negsuc, decimal, ◌≤ℤ◌, ◌<ℤ◌}
use Rattle.std.specs.Fmt.{signed_decimal}
use Rattle.std.specs.List.{list_all}
use Rattle.std.specs.Str.Parse.{AllDigits, IsNumeral, digits_value}
use Rattle.std.proofs.lemmas.Int.{ints}
use Rattle.std.proofs.lemmas.Fmt.{decimal_is_IsNumeral_wide}
use Rattle.std.proofs.lemmas.Str.Parse.{digit_from_value}
use Rattle.text_lex.specs.declared.word.Mode.TheVariants.{LefDef}
use Rattle.text_lex.specs.Bytes.{is_plain}
use Rattle.fixed_decimal.specs.declared.error.DecimalError.{DecimalError}
use Rattle.fixed_decimal.specs.Number.{IsNegative}
use Rattle.fixed_decimal.specs.Integer.{IsInteger}
use Rattle.fixed_decimal.specs.Value.{IsNearest, IsWithin, IsAnswer, StandsFor, signed}
use Rattle.number_place.specs.declared.place.NumberSign.{NumberSign}
use Rattle.number_place.specs.declared.place.NumberSign.TheVariants.{Any, NotNegative, Positive}
use Rattle.number_place.specs.Place.{IsNumberAt, HasSign}
use Rattle.written_words.specs.Numbers.{whole, IsNumeric}
use Rattle.written_words.specs.Spelled.{bare, IsWritten}

-- What is known of the numbers of texts.
pub record Laws : Type 0 where
  pub answer : (places limit : ℕ) (text : List ℕ) (r s : Result ℤ DecimalError) → IsAnswer IsInteger places limit text r → IsAnswer IsInteger places limit text s → r ≡ s
  pub signs : (places limit : ℕ) (text : List ℕ) (v : ℤ) → IsAnswer IsInteger places limit text (Ok v) → (pos 0 ≤ℤ v) ↔ (¬ StandsFor IsInteger text IsNegative)

-- ## what is written of a number is read as it

abs_signed : (negative : Bool) (m : ℕ) → unsigned_abs (signed negative m) ≡ m
abs_signed false m = refl
abs_signed true zero = refl
abs_signed true (suc m) = refl

nearest_whole : (n : ℕ) → IsNearest (n * 10 ^ 0) 1 n
nearest_whole n = record { reached = omega arith; below = omega arith }

is_within : (negative : Bool) (n limit : ℕ) → n ≤ limit → IsWithin (record { negative = negative; numerator = n; denominator = 1 }) 0 limit (signed negative n)
is_within negative n limit most =
    let abs : unsigned_abs (signed negative n) ≡ n = abs_signed negative n in
    record {
      value = record { magnitude = n; nearest = nearest_whole n; is = refl };
      within = omega arith;
      stays = λ e. sym abs ∙ ap unsigned_abs e;
    }

pub numeral_is : (negative : Bool) (digits : List ℕ) (limit : ℕ) → IsNumeral 10 digits → digits_value 10 digits ≤ limit →
    IsAnswer IsInteger 0 limit ((if negative then codes "-" else []) ++ digits) (Ok (signed negative (digits_value 10 digits)))
numeral_is negative digits limit form most = (
  record { negative = negative; numerator = digits_value 10 digits; denominator = 1 },
  record { negative = negative; digits = digits; form = form; is = refl; value = refl },
  is_within negative (digits_value 10 digits) limit most,
)

decimal_is : (negative : Bool) (n limit : ℕ) → n ≤ limit → limit < 10 ^ 64 → IsAnswer IsInteger 0 limit ((if negative then codes "-" else []) ++ decimal n) (Ok (signed negative n))
decimal_is negative n limit most few =
    let d = decimal_is_IsNumeral_wide n (omega arith) in
    let value : digits_value 10 (decimal n) ≡ n = d.1 in
    subst (λ z. IsAnswer IsInteger 0 limit ((if negative then codes "-" else []) ++ decimal n) (Ok (signed negative z))) value
    (numeral_is negative (decimal n) limit d.0 (omega arith))

pub signed_is : (v : ℤ) (limit : ℕ) → unsigned_abs v ≤ limit → limit < 10 ^ 64 → IsAnswer IsInteger 0 limit (signed_decimal v) (Ok v)
signed_is (pos n) limit most few = decimal_is false n limit most few
signed_is (negsuc n) limit most few = decimal_is true (suc n) limit most few

pub same_value : (v w : ℤ) → ◌≡◌ {A = Result ℤ DecimalError} (Ok v) (Ok w) → v ≡ w
same_value v w h = cc

above : (v : ℤ) → pos 0 <ℤ v → pos 0 ≤ℤ v
above v h = omega (arith, ints)

not_zero : (v : ℤ) → pos 0 <ℤ v → v ≡ pos 0 → ⊥
not_zero v h e = omega (arith, ints)

pub number_is : Laws → (sign : NumberSign) (v : ℤ) (limit : ℕ) → HasSign sign v → unsigned_abs v ≤ limit → limit < 10 ^ 64 →
    IsNumberAt (whole limit sign) (signed_decimal v) (Ok v)
number_is laws Any v limit sign most few = (λ h. h, signed_is v limit most few)
number_is laws NotNegative v limit sign most few =
    let is : IsAnswer IsInteger 0 limit (signed_decimal v) (Ok v) = signed_is v limit most few in
    ((laws.signs 0 limit (signed_decimal v) v is).0 sign, is)
number_is laws Positive v limit sign most few =
    let is : IsAnswer IsInteger 0 limit (signed_decimal v) (Ok v) = signed_is v limit most few in (
      λ other. elim other [
        | inl below ↦ (laws.signs 0 limit (signed_decimal v) v is).0 (above v sign) below
        | inr none ↦ not_zero v sign (same_value v (pos 0) (laws.answer 0 limit (signed_decimal v) (Ok v) (Ok (pos 0)) is none))
      ],
      is,
    )

-- ## numbers are words

and_true : (a b : Bool) → a ≡ true → b ≡ true → (a && b) ≡ true
and_true true b h k = k
and_true false b h k = absurd (let t : false ≡ true = h in cc)

no_true : true ≡ false → ⊥
no_true h = cc

differs_by : (c n : ℕ) (b : Bool) → (c == n) ≡ b → (c ≡ n → ⊥) → (c == n) ≡ false
differs_by c n true e h = absurd (h (grind (arith, e)))
differs_by c n false e h = e

differs : (c n : ℕ) → (c ≡ n → ⊥) → (c == n) ≡ false
differs c n h = differs_by c n (c == n) refl h

plain_by : (a b c d : Bool) → a ≡ false → b ≡ false → c ≡ false → d ≡ false → (not (a || b || c || (d && true)) && not d && true) ≡ true
plain_by false false false false e f g h = refl
plain_by true b c d e f g h = absurd (no_true e)
plain_by false true c d e f g h = absurd (no_true f)
plain_by false false true d e f g h = absurd (no_true g)
plain_by false false false true e f g h = absurd (no_true h)

plain_byte : (c : ℕ) → 45 ≤ c → c ≤ 57 → is_plain LefDef c ≡ true
plain_byte c low high =
    plain_by (c == 32) (c == 9) (c == 13) (c == 10)
    (differs c 32 (λ e. omega arith)) (differs c 9 (λ e. omega arith)) (differs c 13 (λ e. omega arith)) (differs c 10 (λ e. omega arith))

digits_plain : (digits : List ℕ) → AllDigits 10 digits → list_all (is_plain LefDef) digits ≡ true
digits_plain [] h = refl
digits_plain (c ∷ cs) h =
    let range = digit_from_value c h.0 in
    let low : 48 ≤ c = range.0 in
    let high : c ≤ 57 = range.1 in
    and_true (is_plain LefDef c) (list_all (is_plain LefDef) cs) (plain_byte c (omega arith) high) (digits_plain cs h.1)

begins_by : (p q r : Bool) → p ≡ false → q ≡ false → (not (p && true) && not (q && true) && not (r && false)) ≡ true
begins_by false false true e f = refl
begins_by false false false e f = refl
begins_by true q r e f = absurd (no_true e)
begins_by false true r e f = absurd (no_true f)

-- A word that begins with neither `#` nor `"`.
word_is : (text : List ℕ) → 0 < length text → 45 ≤ slice_index text 0 → IsTrue (list_all (is_plain LefDef) text) → IsWritten (bare text)
word_is text some low plain b more ends = record {
  some = some;
  begins = begins_by (slice_index text 0 == 35) (slice_index text 0 == 34) (slice_index text 0 == 123) (differs (slice_index text 0) 35 (λ e. omega arith))
      (differs (slice_index text 0) 34 (λ e. omega arith));
  plain = plain;
  ends = ends;
}

no_digits : 0 < length {A = ℕ} [] → ⊥
no_digits h = omega arith

signed_word : (negative : Bool) (digits : List ℕ) → IsNumeral 10 digits → IsNumeric ((if negative then codes "-" else []) ++ digits)
signed_word true digits h = record {
  low = omega arith;
  high = omega arith;
  no_mark = λ e. let n = ap length e in let some = h.0 in omega arith;
  word = word_is (45 ∷ digits) (omega arith) (omega arith) (digits_plain digits h.1);
}
signed_word false [] h = absurd (no_digits h.0)
signed_word false (c ∷ cs) h =
    let range = digit_from_value c h.1.0 in
    let low : 48 ≤ c = range.0 in
    let high : c ≤ 57 = range.1 in
    record {
      low = omega arith;
      high = high;
      no_mark = λ e. let first : c ≡ 45 = ap (λ z. slice_index z 0) e in omega arith;
      word = word_is (c ∷ cs) (omega arith) (omega arith) (digits_plain (c ∷ cs) h.1);
    }

pub number_word : (v : ℤ) → unsigned_abs v < 10 ^ 64 → IsNumeric (signed_decimal v)
number_word (pos n) few = signed_word false (decimal n) (decimal_is_IsNumeral_wide n few).0
number_word (negsuc n) few = signed_word true (decimal (suc n)) (decimal_is_IsNumeral_wide (suc n) few).0

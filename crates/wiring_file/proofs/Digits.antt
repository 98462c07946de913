-- Whole numbers as they are written: words of DEF, and what they are read as.
use Rattle.std.proofs.Common.{◌≡◌, ℕ, zero, suc, ◌*◌, ◌^◌, ◌<◌, ◌≤◌, ◌==◌, ◌&&◌, ◌||◌, not, Bool, true, false, if◌then◌else◌, ℤ, pos, List, [], ◌∷◌, ◌++◌, length, codes, Result, Ok, Err, refl, sym, ◌∙◌, ap, subst, arith, inl, inr}
use Rattle.std.specs.Prelude.{IsTrue, ◌↔◌, slice_index, unsigned_abs, negsuc, decimal, ◌≤ℤ◌, ◌<ℤ◌}
use Rattle.std.specs.Fmt.{signed_decimal}
use Rattle.std.specs.List.{list_all}
use Rattle.std.specs.Char.{digit_value}
use Rattle.std.proofs.lemmas.Str.{digit_value_digit}
use Rattle.std.specs.Str.Parse.{AllDigits, IsNumeral, digits_value}
use Rattle.std.proofs.lemmas.Int.{ints}
use Rattle.std.proofs.lemmas.Fmt.{decimal_is_IsNumeral_wide}
use Rattle.std.proofs.lemmas.Str.Parse.{digit_from_value}
use Rattle.text_lex.specs.declared.word.Mode.TheVariants.{LefDef}
use Rattle.text_lex.specs.Bytes.{is_plain}
use Rattle.text_lex.specs.Piece.{IsBare}
use Rattle.fixed_decimal.specs.declared.error.DecimalError.{DecimalError}
use Rattle.fixed_decimal.specs.Number.{IsNegative}
use Rattle.fixed_decimal.specs.Integer.{IsInteger}
use Rattle.fixed_decimal.specs.Value.{IsNearest, IsWithin, IsAnswer, StandsFor, signed}
use Rattle.number_place.specs.declared.place.NumberForm.TheVariants.{Integer}
use Rattle.number_place.specs.declared.place.NumberPlace.{NumberPlace}
use Rattle.number_place.specs.declared.place.NumberSign.{NumberSign}
use Rattle.number_place.specs.declared.place.NumberSign.TheVariants.{Any, NotNegative, Positive}
use Rattle.number_place.specs.declared.place.Refused.{Refused}
use Rattle.number_place.specs.Place.{IsNumberAt, HasSign}
use Rattle.written_words.specs.Laws.Digits.{number_is as number_reads, numeral_is}
use Rattle.written_words.specs.Numbers.{whole}

-- What is known of the numbers of texts.
pub record Laws : Type 0 where
  pub one : (place : NumberPlace) (text : List ℕ) (r s : Result ℤ Refused) → IsNumberAt place text r → IsNumberAt place text s → r ≡ s
  pub answer : (places limit : ℕ) (text : List ℕ) (r s : Result ℤ DecimalError) → IsAnswer IsInteger places limit text r → IsAnswer IsInteger places limit text s → r ≡ s
  pub signs : (places limit : ℕ) (text : List ℕ) (v : ℤ) → IsAnswer IsInteger places limit text (Ok v) → (pos 0 ≤ℤ v) ↔ (¬ StandsFor IsInteger text IsNegative)

pub same_number : (v w : ℤ) → ◌≡◌ {A = Result ℤ Refused} (Ok v) (Ok w) → v ≡ w
same_number v w h = cc

pub not_refused : (v : ℤ) (r : Refused) → ◌≡◌ {A = Result ℤ Refused} (Ok v) (Err r) → ⊥
not_refused v r h = cc

-- a number that is written in its place is read as itself
pub number_is : Laws → (sign : NumberSign) (v : ℤ) (limit : ℕ) → HasSign sign v → unsigned_abs v ≤ limit → limit < 10 ^ 64 →
    IsNumberAt (whole limit sign) (signed_decimal v) (Ok v)
number_is laws sign v limit has near few = number_reads (record { answer = laws.answer; signs = laws.signs }) sign v limit has near few

-- The digit 0.
zero_digit : digit_value 48 ≡ 0
zero_digit = let e = digit_value_digit 48 (omega arith, omega arith) in omega arith

zero_answer : (limit : ℕ) → IsAnswer IsInteger 0 limit (codes "0") (Ok (pos 0))
zero_answer limit =
    let value : digits_value 10 (codes "0") ≡ 0 = (let e : digit_value 48 ≡ 0 = zero_digit in omega arith) in
    let small : digit_value 48 < 10 = (let e : digit_value 48 ≡ 0 = zero_digit in omega arith) in
    subst (λ z. IsAnswer IsInteger 0 limit (codes "0") (Ok (pos z))) value (numeral_is false (codes "0") limit (omega arith, (small, tt)) (omega arith))

pub zero_is : Laws → (limit : ℕ) → IsNumberAt (whole limit NotNegative) (codes "0") (Ok (pos 0))
zero_is laws limit =
    let is : IsAnswer IsInteger 0 limit (codes "0") (Ok (pos 0)) = zero_answer limit in
    ((laws.signs 0 limit (codes "0") (pos 0) is).0 (omega (arith, ints)), is)

-- ## numbers are words

and_true : (a b : Bool) → a ≡ true → b ≡ true → (a && b) ≡ true
and_true true b h k = k
and_true false b h k = absurd (let t : false ≡ true = h in cc)

pub no_true : true ≡ false → ⊥
no_true h = cc

pub no_false : false ≡ true → ⊥
no_false h = cc

differs_by : (c n : ℕ) (b : Bool) → (c == n) ≡ b → (c ≡ n → ⊥) → (c == n) ≡ false
differs_by c n true e h = absurd (h (grind (arith, e)))
differs_by c n false e h = e

differs : (c n : ℕ) → (c ≡ n → ⊥) → (c == n) ≡ false
differs c n h = differs_by c n (c == n) refl h

plain_by : (a b c d : Bool) → a ≡ false → b ≡ false → c ≡ false → d ≡ false → (not (a || b || c || (d && true)) && not d && true) ≡ true
plain_by false false false false e f g h = refl
plain_by true b c d e f g h = absurd (no_true e)
plain_by false true c d e f g h = absurd (no_true f)
plain_by false false true d e f g h = absurd (no_true g)
plain_by false false false true e f g h = absurd (no_true h)

plain_byte : (c : ℕ) → 45 ≤ c → c ≤ 57 → is_plain LefDef c ≡ true
plain_byte c low high =
    plain_by (c == 32) (c == 9) (c == 13) (c == 10)
    (differs c 32 (λ e. omega arith)) (differs c 9 (λ e. omega arith)) (differs c 13 (λ e. omega arith)) (differs c 10 (λ e. omega arith))

pub digits_plain : (digits : List ℕ) → AllDigits 10 digits → list_all (is_plain LefDef) digits ≡ true
digits_plain [] h = refl
digits_plain (c ∷ cs) h =
    let range = digit_from_value c h.0 in
    let low : 48 ≤ c = range.0 in
    let high : c ≤ 57 = range.1 in
    and_true (is_plain LefDef c) (list_all (is_plain LefDef) cs) (plain_byte c (omega arith) high) (digits_plain cs h.1)

pub decimal_plain : (n : ℕ) → n < 10 ^ 64 → list_all (is_plain LefDef) (decimal n) ≡ true
decimal_plain n few = digits_plain (decimal n) (decimal_is_IsNumeral_wide n few).0.1

-- A word that may be a number: it begins with a sign or a digit.
pub record IsNumberWord (text : List ℕ) : Type 0 where
  pub some : 0 < length text
  pub low : 45 ≤ slice_index text 0
  pub high : slice_index text 0 ≤ 57
  pub plain : IsTrue (list_all (is_plain LefDef) text)

no_digits : 0 < length {A = ℕ} [] → ⊥
no_digits h = omega arith

signed_word : (negative : Bool) (digits : List ℕ) → IsNumeral 10 digits → IsNumberWord ((if negative then codes "-" else []) ++ digits)
signed_word true digits h = record {
  some = omega arith;
  low = omega arith;
  high = omega arith;
  plain = digits_plain digits h.1;
}
signed_word false [] h = absurd (no_digits h.0)
signed_word false (c ∷ cs) h =
    let range = digit_from_value c h.1.0 in
    let low : 48 ≤ c = range.0 in
    let high : c ≤ 57 = range.1 in
    record {
      some = omega arith;
      low = omega arith;
      high = high;
      plain = digits_plain (c ∷ cs) h.1;
    }

answer_word : (limit : ℕ) (text : List ℕ) (v : ℤ) → IsAnswer IsInteger 0 limit text (Ok v) → IsNumberWord text
answer_word limit text v h = subst (λ z. IsNumberWord z) (sym h.1.is) (signed_word h.1.negative h.1.digits h.1.form)

pub number_word : (limit : ℕ) (sign : NumberSign) (text : List ℕ) (v : ℤ) → IsNumberAt (whole limit sign) text (Ok v) → IsNumberWord text
number_word limit sign text v h = answer_word limit text v h.1

begins_by : (p q r : Bool) → p ≡ false → q ≡ false → (not (p && true) && not (q && true) && not (r && false)) ≡ true
begins_by false false true e f = refl
begins_by false false false e f = refl
begins_by true q r e f = absurd (no_true e)
begins_by false true r e f = absurd (no_true f)

-- A word that begins with neither `#` nor `"`.
pub bare_word : (text : List ℕ) → 0 < length text → (slice_index text 0 ≡ 35 → ⊥) → (slice_index text 0 ≡ 34 → ⊥) → IsTrue (list_all (is_plain LefDef) text) → IsBare LefDef true text []
bare_word text some number quote plain = record {
  some = some;
  begins = begins_by (slice_index text 0 == 35) (slice_index text 0 == 34) (slice_index text 0 == 123) (differs (slice_index text 0) 35 number) (differs (slice_index text 0) 34 quote);
  plain = plain;
  ends = refl;
}

pub number_bare : (text : List ℕ) → IsNumberWord text → IsBare LefDef true text []
number_bare text word =
    let low : 45 ≤ slice_index text 0 = word.low in
    bare_word text word.some (λ e. omega arith) (λ e. omega arith) word.plain

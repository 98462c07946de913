-- Values that are written stand in cards as words that read back.
use Rattle.std.proofs.Common.{◌≡◌, ℕ, zero, suc, ◌+◌, ◌-◌, ◌%◌, ◌<◌, ◌≤◌, ◌^◌, ◌==◌, ◌&&◌, ◌||◌, not, cond, eqb, ltb, Bool, true, false, ℤ, List, [], ◌∷◌, ◌++◌, length, codes, Ok, refl, subst, arith}
use Rattle.std.proofs.Math.Nat.{div-le_self}
use Rattle.std.specs.Prelude.{IsTrue, All, Result, decimal, unsigned_abs, int_lt, pos, ◌/◌, if◌then◌else◌}
use Rattle.std.specs.Fmt.{digits, digits_onto, digit_glyph}
use Rattle.std.specs.List.{list_all, AllByRecursion}
use Rattle.std.specs.Str.Parse.{AllDigits}
use Rattle.std.proofs.lemmas.Fmt.{decimal_is_IsNumeral_wide}
use Rattle.std.proofs.lemmas.Str.Parse.{digit_from_value}
use Rattle.std.proofs.lemmas.List.Elements.{recursion_from_All}
use Rattle.text_lex.specs.declared.word.Mode.TheVariants.{Lines}
use Rattle.text_lex.specs.Bytes.{is_plain}
use Rattle.fixed_decimal.specs.Number.{Number, IsDecimal}
use Rattle.fixed_decimal.specs.Spice.{IsSpice}
use Rattle.fixed_decimal.specs.Value.{DecimalReads, IsSpiceNumber}
use Rattle.fixed_decimal.specs.Printed.{printed, places_text}
use Rattle.number_place.specs.declared.place.NumberPlace.{NumberPlace}
use Rattle.number_place.specs.declared.place.NumberForm.TheVariants.{Scaled}
use Rattle.number_place.specs.declared.place.NumberSign.TheVariants.{Any}
use Rattle.number_place.specs.declared.place.Refused.{Refused}
use Rattle.number_place.specs.Place.{IsNumberAt}
use Rattle.spice_cards.specs.Sort.{sort_of_text}
use Rattle.written_netlists.proofs.Lines.{IsText}

-- The laws of numbers, as they are handed in.
pub record NumberLaws : Type 0 where
  pub spice : (text : List ℕ) (n : Number) → IsDecimal text n → IsSpice text n
  pub some : (text : List ℕ) → IsSpiceNumber text → 0 < length text
  pub no_white : (text : List ℕ) → IsSpiceNumber text → All (λ c. 32 < c) text
  pub back : (value : ℤ) (places limit : ℕ) → places ≤ 30 → limit ≤ 10 ^ 37 → unsigned_abs value ≤ limit → DecimalReads places limit (printed value places) value
  pub one : (place : NumberPlace) (text : List ℕ) (r s : Result ℤ Refused) → IsNumberAt place text r → IsNumberAt place text s → r ≡ s

-- The text is one word, which is no keyword and no letter of a card, and stands for this number in this place.
pub record IsValue (place : NumberPlace) (text : List ℕ) (value : ℤ) : Type 0 where
  pub word : IsText text
  pub sort : sort_of_text text ≡ sort_of_text (codes "0")
  pub number : IsNumberAt place text (Ok value)

-- ## words

unlike_by : (c n : ℕ) (b : Bool) → (c == n) ≡ b → n < c → (c == n) ≡ false
unlike_by c n true e h = absurd (let same : c ≡ n = grind (arith, e) in omega arith)
unlike_by c n false e h = e

unlike : (c n : ℕ) → n < c → (c == n) ≡ false
unlike c n h = unlike_by c n (c == n) refl h

true_not_false : true ≡ false → ⊥
true_not_false h = cc

plain_by : (a b c d : Bool) → a ≡ false → b ≡ false → c ≡ false → d ≡ false → (not (a || b || c || (d && false)) && not d && true) ≡ true
plain_by false false false false e f g h = refl
plain_by true b c d e f g h = absurd (true_not_false e)
plain_by false true c d e f g h = absurd (true_not_false f)
plain_by false false true d e f g h = absurd (true_not_false g)
plain_by false false false true e f g h = absurd (true_not_false h)

pub plain_high : (c : ℕ) → 32 < c → is_plain Lines c ≡ true
plain_high c h =
    plain_by (c == 32) (c == 9) (c == 13) (c == 10) (unlike c 32 h) (unlike c 9 (omega arith)) (unlike c 13 (omega arith)) (unlike c 10 (omega arith))

and_true : (a b : Bool) → a ≡ true → b ≡ true → (a && b) ≡ true
and_true true b h k = k
and_true false b h k = absurd (let t : false ≡ true = h in cc)

plain_all : (text : List ℕ) → AllByRecursion (λ c. 32 < c) text → IsTrue (list_all (is_plain Lines) text)
plain_all [] h = refl
plain_all (c ∷ cs) h = and_true (is_plain Lines c) (list_all (is_plain Lines) cs) (plain_high c h.0) (plain_all cs h.1)

-- ## whole numbers

glyph_high : (n : ℕ) → 32 < digit_glyph false (n % 10)
glyph_high n = by (ltb (n % 10) 10)
  where
    by : (b : Bool) → 32 < cond b (48 + n % 10) (87 + n % 10)
    by true = omega arith
    by false = omega arith

onto_high : (k n : ℕ) (front : List ℕ) → AllByRecursion (λ c. 32 < c) front → AllByRecursion (λ c. 32 < c) (digits_onto k 10 false n front)
onto_high zero n front high = high
onto_high (suc k) n front high =
    by (eqb (n / 10) 0) (digit_glyph false (n % 10) ∷ front) (digits_onto k 10 false (n / 10) (digit_glyph false (n % 10) ∷ front))
    (glyph_high n, high)
    (onto_high k (n / 10) (digit_glyph false (n % 10) ∷ front) (glyph_high n, high))
  where
    by : (b : Bool) (xs ys : List ℕ) → AllByRecursion (λ c. 32 < c) xs → AllByRecursion (λ c. 32 < c) ys → AllByRecursion (λ c. 32 < c) (cond b xs ys)
    by true xs ys p q = p
    by false xs ys p q = q

-- The digits of a number are bytes of words.
pub decimal_high : (n : ℕ) → AllByRecursion (λ c. 32 < c) (decimal n)
unfolding digits
decimal_high n = onto_high 64 n [] tt

-- A letter and a number.
pub numbered_text : (letter number : ℕ) → 32 < letter → IsText (letter ∷ decimal number)
numbered_text letter number high = record { some = omega arith; plain = plain_all (letter ∷ decimal number) (high, decimal_high number) }

-- ## sorts

at_digit : (P : ℕ → Type 0) → P 48 → P 49 → P 50 → P 51 → P 52 → P 53 → P 54 → P 55 → P 56 → P 57 → (d : ℕ) → d < 10 → P (48 + d)
at_digit P a b c d e f g h i j zero l = a
at_digit P a b c d e f g h i j (suc zero) l = b
at_digit P a b c d e f g h i j (suc (suc zero)) l = c
at_digit P a b c d e f g h i j (suc (suc (suc zero))) l = d
at_digit P a b c d e f g h i j (suc (suc (suc (suc zero)))) l = e
at_digit P a b c d e f g h i j (suc (suc (suc (suc (suc zero))))) l = f
at_digit P a b c d e f g h i j (suc (suc (suc (suc (suc (suc zero)))))) l = g
at_digit P a b c d e f g h i j (suc (suc (suc (suc (suc (suc (suc zero))))))) l = h
at_digit P a b c d e f g h i j (suc (suc (suc (suc (suc (suc (suc (suc zero)))))))) l = i
at_digit P a b c d e f g h i j (suc (suc (suc (suc (suc (suc (suc (suc (suc zero))))))))) l = j
at_digit P a b c d e f g h i j (suc (suc (suc (suc (suc (suc (suc (suc (suc (suc n)))))))))) l = absurd (omega arith)

digit_sort : (c : ℕ) (cs : List ℕ) → 48 ≤ c → c ≤ 57 → sort_of_text (c ∷ cs) ≡ sort_of_text (codes "0")
digit_sort c cs low high =
    let at : 48 + (c - 48) ≡ c = omega arith in
    subst (λ z. sort_of_text (z ∷ cs) ≡ sort_of_text (codes "0")) at
    (at_digit (λ z. sort_of_text (z ∷ cs) ≡ sort_of_text (codes "0")) refl refl refl refl refl refl refl refl refl refl (c - 48) (omega arith))

unsigned_sort : (digits more : List ℕ) → 0 < length digits → AllDigits 10 digits → sort_of_text (digits ++ more) ≡ sort_of_text (codes "0")
unsigned_sort [] more some h = absurd (omega arith)
unsigned_sort (c ∷ cs) more some h =
    let range = digit_from_value c h.0 in
    digit_sort c (cs ++ more) range.0 range.1

signed_sort : (below : Bool) (n places : ℕ) → n < 10 ^ 64 →
    sort_of_text ((if below then codes "-" else []) ++ (decimal (n / 10 ^ places) ++ places_text n places)) ≡ sort_of_text (codes "0")
signed_sort true n places few = refl
signed_sort false n places few =
    let numeral = decimal_is_IsNumeral_wide (n / 10 ^ places) (omega (arith, div-le_self n (10 ^ places))) in
    unsigned_sort (decimal (n / 10 ^ places)) (places_text n places) numeral.0.0 numeral.0.1

-- A place for a number of so many places within a limit, with SPICE's scales and of any sign.
abbrev pub scaled : ℕ → ℕ → NumberPlace
scaled places limit = record { form = Scaled; places = places; limit = limit; sign = Any }

-- A value that is printed.
pub printed_is : NumberLaws → (value : ℤ) (places limit : ℕ) → places ≤ 30 → limit ≤ 10 ^ 37 → unsigned_abs value ≤ limit →
    IsValue (scaled places limit) (printed value places) value
printed_is laws value places limit few most within =
    let reads : DecimalReads places limit (printed value places) value = laws.back value places limit few most within in
    let spice : IsSpice (printed value places) reads.0 = laws.spice (printed value places) reads.0 reads.1 in
    record {
      word = record {
        some = laws.some (printed value places) (reads.0, spice);
        plain = plain_all (printed value places) (recursion_from_All (λ c. 32 < c) (printed value places) (laws.no_white (printed value places) (reads.0, spice)));
      };
      sort = signed_sort (int_lt value (pos 0)) (unsigned_abs value) places (omega arith);
      number = (λ h. h, (reads.0, spice, reads.2));
    }

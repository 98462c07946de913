-- The laws of the definitions.
use Rattle.std.proofs.Common.{◌≡◌, ℕ, zero, suc, ◌+◌, ◌-◌, ◌*◌, ◌/◌, ◌%◌, ◌^◌, ◌<◌, ◌≤◌, Bool, true, false, List, [], ◌∷◌, ◌++◌, length, replicate, ℤ, pos, negsuc, All, Option, Some, None, arith, ap, sym, ◌∙◌, refl, subst, inl, inr, div-add-mod', mod-lt, decimal, if◌then◌else◌, codes, IfSome, Result, Ok, Err}
use Rattle.std.specs.Prelude.{unsigned_abs, int_lt, ◌==◌}
use Rattle.std.specs.Char.{digit_value, IsAsciiAlphabetic, IsAsciiDigit}
use Rattle.std.specs.Str.Parse.{AllDigits, IsNumeral, digits_value, digits_value_after}
use Rattle.std.proofs.lemmas.Bool.Decides.{nat_tests}
use Rattle.std.proofs.lemmas.Int.{ints}
use Rattle.std.proofs.lemmas.Fmt.{decimal_is_IsNumeral_wide, length-decimal-le_wide}
use Rattle.std.proofs.lemmas.List.{append-nil, length-append, length-replicate}
use Rattle.std.proofs.lemmas.List.Elements.{All-nil, All-cons, All-append, All-head, All-tail}
use Rattle.std.proofs.lemmas.Str.Parse.{digit_from_value}
use Rattle.std.proofs.Math.Nat.{pow-suc, mul-le-mul_left}
use Rattle.fixed_decimal.specs.Number.{Sign, absent, plus, minus, sign_text, is_minus, Exponent, exponent_text, letter_text, fraction_text, fraction_digits, Number, Spelling, spelling_text, number_of, IsDecimal}
use Rattle.fixed_decimal.specs.Printed.{minus_text, padded, places_text, printed}
use Rattle.fixed_decimal.specs.Spice.{IsSpice, scaled, scale_of}
use Rattle.fixed_decimal.specs.Value.{IsNearest, IsMagnitude, IsWithin, IsValue, IsAbove, Vanishes, signed, DecimalReads, SpiceReads, DecimalValue, SpiceValue, IsSpiceNumber, IsAnswer}
use Rattle.fixed_decimal.specs.inside.Kept.{AnswersNumber}
use Rattle.fixed_decimal.specs.declared.error.DecimalError.{DecimalError}
use Rattle.fixed_decimal.specs.declared.error.DecimalError.TheVariants.{NotNumber, Vanishes as VanishesError, Range}
use Rattle.fixed_decimal.proofs.Powers.{ten_pos}
use Rattle.fixed_decimal.proofs.Rounding.{nearest_whole}
use Rattle.fixed_decimal.proofs.Runs.{value_after_append}
use Rattle.fixed_decimal.proofs.Settled.{ends_nothing, ends_letters, value_unique, value_back, vanishes_back, range_back}
use Rattle.fixed_decimal.proofs.Spellings.{spelling_unique}

-- ---- one value.
pub decimal_unique : (text : List ℕ) (m n : Number) → IsDecimal text m → IsDecimal text n → m ≡ n
decimal_unique text m n a b =
    let same = spelling_unique a.spelling b.spelling [] [] a.form b.form (ends_nothing a.spelling) (ends_nothing b.spelling) (append-nil (spelling_text a.spelling) ∙ (sym a.is ∙ (b.is ∙ sym (append-nil (spelling_text b.spelling))))) in
    a.value ∙ (ap number_of same.0 ∙ sym b.value)

pub spice_unique : (text : List ℕ) (m n : Number) → IsSpice text m → IsSpice text n → m ≡ n
spice_unique text m n a b =
    let same = spelling_unique a.spelling b.spelling a.letters b.letters a.form b.form (ends_letters a.spelling a.letters a.scale.only_letters) (ends_letters b.spelling b.letters b.scale.only_letters) (sym a.is ∙ b.is) in
    a.value ∙ (ap (λ s. scaled (number_of s) (scale_of a.letters)) same.0 ∙ (ap (λ l. scaled (number_of b.spelling) (scale_of l)) same.1 ∙ sym b.value))

pub decimal_value_once : (places : ℕ) (text : List ℕ) (v w : ℤ) → DecimalValue places text v → DecimalValue places text w → v ≡ w
decimal_value_once places text v w a b =
    let P : Number → Type 0 = λ n. IsValue n places w in
    value_unique a.0 places v w a.2 (subst P (decimal_unique text b.0 a.0 b.1 a.1) b.2)

pub spice_value_once : (places : ℕ) (text : List ℕ) (v w : ℤ) → SpiceValue places text v → SpiceValue places text w → v ≡ w
spice_value_once places text v w a b =
    let P : Number → Type 0 = λ n. IsValue n places w in
    value_unique a.0 places v w a.2 (subst P (spice_unique text b.0 a.0 b.1 a.1) b.2)

pub decimal_reads_once : (places limit : ℕ) (text : List ℕ) (v w : ℤ) → DecimalReads places limit text v → DecimalReads places limit text w → v ≡ w
decimal_reads_once places limit text v w a b = decimal_value_once places text v w (a.0, a.1, a.2.value) (b.0, b.1, b.2.value)

pub spice_reads_once : (places limit : ℕ) (text : List ℕ) (v w : ℤ) → SpiceReads places limit text v → SpiceReads places limit text w → v ≡ w
spice_reads_once places limit text v w a b = spice_value_once places text v w (a.0, a.1, a.2.value) (b.0, b.1, b.2.value)

-- ---- one answer
-- an answer to a text that stands for a number is the answer to that number.
of_number : (form : List ℕ → Number → Type 0) (places limit : ℕ) (text : List ℕ) (n : Number) → form text n → ((m : Number) → form text m → m ≡ n) → (r : Result ℤ DecimalError) → IsAnswer form places limit text r → AnswersNumber n places limit r
of_number form places limit text n is only (Ok v) a = subst (λ m. IsWithin m places limit v) (only a.0 a.1) a.2
of_number form places limit text n is only (Err NotNumber) a = absurd (a n is)
of_number form places limit text n is only (Err VanishesError) a = subst (λ m. Vanishes m places) (only a.0 a.1) a.2
of_number form places limit text n is only (Err Range) a = subst (λ m. IsAbove m places limit) (only a.0 a.1) a.2

module _ (form : List ℕ → Number → Type 0) (places limit : ℕ) (text : List ℕ) (unique : (m n : Number) → form text m → form text n → m ≡ n) where
  pub answer_once : (r s : Result ℤ DecimalError) → IsAnswer form places limit text r → IsAnswer form places limit text s → r ≡ s
  answer_once (Ok v) s a b = sym (value_back a.0 places limit s v (of_number form places limit text a.0 a.1 (λ m f. unique m a.0 f a.1) s b) a.2)
  answer_once (Err VanishesError) s a b = sym (vanishes_back a.0 places limit s (of_number form places limit text a.0 a.1 (λ m f. unique m a.0 f a.1) s b) a.2)
  answer_once (Err Range) s a b = sym (range_back a.0 places limit s (of_number form places limit text a.0 a.1 (λ m f. unique m a.0 f a.1) s b) a.2)
  answer_once (Err NotNumber) (Err NotNumber) a b = refl
  answer_once (Err NotNumber) (Ok w) a b = absurd (a b.0 b.1)
  answer_once (Err NotNumber) (Err VanishesError) a b = absurd (a b.0 b.1)
  answer_once (Err NotNumber) (Err Range) a b = absurd (a b.0 b.1)

-- ---- no white.
abbrev IsVisible : ℕ → Type 0
IsVisible c = 32 < c

digits_visible : (ds : List ℕ) → AllDigits 10 ds → All IsVisible ds
digits_visible [] h = All-nil IsVisible
digits_visible (c ∷ cs) h = All-cons IsVisible c cs (let r : IsAsciiDigit c = digit_from_value c h.0 in let low = r.0 in omega arith) (digits_visible cs h.1)

sign_visible : (s : Sign) → All IsVisible (sign_text s)
sign_visible absent = All-nil IsVisible
sign_visible plus = All-cons IsVisible 43 [] (omega arith) (All-nil IsVisible)
sign_visible minus = All-cons IsVisible 45 [] (omega arith) (All-nil IsVisible)

fraction_visible : (f : Option (List ℕ)) → AllDigits 10 (fraction_digits f) → All IsVisible (fraction_text f)
fraction_visible None h = All-nil IsVisible
fraction_visible (Some ds) h = All-cons IsVisible 46 ds (omega arith) (digits_visible ds h)

letter_visible : (b : Bool) → All IsVisible (letter_text b)
letter_visible false = All-cons IsVisible 101 [] (omega arith) (All-nil IsVisible)
letter_visible true = All-cons IsVisible 69 [] (omega arith) (All-nil IsVisible)

exponent_visible : (e : Option Exponent) → IfSome e (λ e. IsNumeral 10 e.digits) → All IsVisible (exponent_text e)
exponent_visible None h = All-nil IsVisible
exponent_visible (Some e) h = All-append IsVisible (letter_text e.capital) (sign_text e.sign ++ e.digits) (letter_visible e.capital) (All-append IsVisible (sign_text e.sign) e.digits (sign_visible e.sign) (digits_visible e.digits h.1))

letter_is_visible : (c : ℕ) → IsAsciiAlphabetic c → IsVisible c
letter_is_visible c (inl r) = let low = r.0 in omega arith
letter_is_visible c (inr r) = let low = r.0 in omega arith

letters_visible : (cs : List ℕ) → All IsAsciiAlphabetic cs → All IsVisible cs
letters_visible [] h = All-nil IsVisible
letters_visible (c ∷ cs) h = All-cons IsVisible c cs (letter_is_visible c (All-head IsAsciiAlphabetic c cs h)) (letters_visible cs (All-tail IsAsciiAlphabetic c cs h))

pub spice_visible : (text : List ℕ) → IsSpiceNumber text → All (λ c. 32 < c) text
spice_visible text number =
    let a = number.1 in
    let s = a.spelling in
    let after = All-append IsVisible (fraction_text s.fraction) (exponent_text s.exponent) (fraction_visible s.fraction a.form.fraction) (exponent_visible s.exponent a.form.exponent) in
    let number = All-append IsVisible (sign_text s.sign) (s.whole ++ (fraction_text s.fraction ++ exponent_text s.exponent)) (sign_visible s.sign) (All-append IsVisible s.whole (fraction_text s.fraction ++ exponent_text s.exponent) (digits_visible s.whole a.form.whole) after) in
    let whole = All-append IsVisible (spelling_text s) a.letters number (letters_visible a.letters a.scale.only_letters) in
    let P : List ℕ → Type 0 = λ t. All IsVisible t in
    subst P (sym a.is) whole

-- ---- printed texts read back.
digits_append : (xs ys : List ℕ) → AllDigits 10 xs → AllDigits 10 ys → AllDigits 10 (xs ++ ys)
digits_append [] ys a b = b
digits_append (x ∷ xs) ys a b = (a.0, digits_append xs ys a.1 b)

zeros_digits : (k : ℕ) → AllDigits 10 (replicate k 48)
zeros_digits zero = tt
zeros_digits (suc k) = (omega arith, zeros_digits k)

zeros_value : (k : ℕ) (ds : List ℕ) → digits_value 10 (replicate k 48 ++ ds) ≡ digits_value 10 ds
zeros_value zero ds = refl
zeros_value (suc k) ds = zeros_value k ds

-- A number in front of digits counts by one power of ten for each.
value_after_is : (n : ℕ) (ds : List ℕ) → digits_value_after 10 n ds ≡ n * 10 ^ length ds + digits_value 10 ds
value_after_is n [] = omega arith
value_after_is n (c ∷ cs) =
    let first = value_after_is (n * 10 + digit_value c) cs in
    let second = value_after_is (digit_value c) cs in
    let power : 10 ^ suc (length cs) ≡ 10 ^ length cs * 10 = pow-suc 10 (length cs) in
    let product : n * 10 ^ suc (length cs) ≡ n * (10 ^ length cs * 10) = ap (λ p. n * p) power in
    let start : digits_value_after 10 (0 * 10 + digit_value c) cs ≡ digits_value_after 10 (digit_value c) cs = ap (λ x. digits_value_after 10 x cs) (omega arith) in
    omega arith

-- A number below 10^places, written with that many digits.
module _ (places n : ℕ) (some : 0 < places) (below : n < 10 ^ places) (wide : n < 10 ^ 64) where
  padded_digits : AllDigits 10 (padded places n)
  padded_digits = digits_append (replicate (places - length (decimal n)) 48) (decimal n) (zeros_digits (places - length (decimal n))) (decimal_is_IsNumeral_wide n wide).0.1

  padded_length : length (padded places n) ≡ places
  padded_length =
      let short = length-decimal-le_wide places n some below wide in
      let zeros : length (replicate {A = ℕ} (places - length (decimal n)) 48) ≡ places - length (decimal n) = length-replicate (places - length (decimal n)) 48 in
      let sum : length (padded places n) ≡ length (replicate {A = ℕ} (places - length (decimal n)) 48) + length (decimal n) = length-append (replicate (places - length (decimal n)) 48) (decimal n) in
      omega arith

  padded_value : digits_value 10 (padded places n) ≡ n
  padded_value = zeros_value (places - length (decimal n)) (decimal n) ∙ (decimal_is_IsNumeral_wide n wide).1

sign_of : ℤ → Sign
sign_of (pos n) = absent
sign_of (negsuc n) = minus

sign_is : (v : ℤ) → minus_text v ≡ sign_text (sign_of v)
unfolding sign_of
sign_is (pos n) = let e : int_lt (pos n) (pos 0) ≡ false = grind (arith, ints) in ap (λ b. if b then codes "-" else []) e
sign_is (negsuc n) = refl

value_is : (v : ℤ) → v ≡ signed (is_minus (sign_of v)) (unsigned_abs v)
unfolding sign_of
value_is (pos n) = refl
value_is (negsuc n) = refl

fraction_of : ℕ → ℕ → Option (List ℕ)
fraction_of n zero = None
fraction_of n (suc p) = Some (padded (suc p) (n % 10 ^ suc p))

module _ (n : ℕ) (wide : n < 10 ^ 64) where
  places_is : (p : ℕ) → places_text n p ≡ fraction_text (fraction_of n p)
  unfolding fraction_of
  places_is zero = refl
  places_is (suc p) =
      let e : (suc p == 0) ≡ false = grind (arith, nat_tests) in
      ap (λ b. if b then [] else (codes "." ++ padded (suc p) (n % 10 ^ suc p))) e

  rest_below : (p : ℕ) → n % 10 ^ p < 10 ^ p
  rest_below p = mod-lt n (ten_pos p)

  rest_wide : (p : ℕ) → n % 10 ^ p < 10 ^ 64
  rest_wide p = let e = div-add-mod' n (10 ^ p) in omega arith

  whole_wide : (p : ℕ) → n / 10 ^ p < 10 ^ 64
  whole_wide p =
      let e = div-add-mod' n (10 ^ p) in
      let more : n / 10 ^ p * 1 ≤ n / 10 ^ p * 10 ^ p = mul-le-mul_left (n / 10 ^ p) (ten_pos p) in
      omega arith

  fraction_form : (p : ℕ) → AllDigits 10 (fraction_digits (fraction_of n p))
  unfolding fraction_of
  fraction_form zero = tt
  fraction_form (suc p) = padded_digits (suc p) (n % 10 ^ suc p) (omega arith) (rest_below (suc p)) (rest_wide (suc p))

  fraction_length : (p : ℕ) → length (fraction_digits (fraction_of n p)) ≡ p
  unfolding fraction_of
  fraction_length zero = refl
  fraction_length (suc p) = padded_length (suc p) (n % 10 ^ suc p) (omega arith) (rest_below (suc p)) (rest_wide (suc p))

  fraction_value : (p : ℕ) → digits_value 10 (fraction_digits (fraction_of n p)) ≡ n % 10 ^ p
  unfolding fraction_of
  fraction_value zero = let e = rest_below zero in omega arith
  fraction_value (suc p) = padded_value (suc p) (n % 10 ^ suc p) (omega arith) (rest_below (suc p)) (rest_wide (suc p))

  -- All digits together write the number.
  digits_are : (p : ℕ) → digits_value 10 (decimal (n / 10 ^ p) ++ fraction_digits (fraction_of n p)) ≡ n
  digits_are p =
      let fraction = fraction_digits (fraction_of n p) in
      let whole = decimal_is_IsNumeral_wide (n / 10 ^ p) (whole_wide p) in
      let parts = value_after_append 0 (decimal (n / 10 ^ p)) fraction in
      let after = value_after_is (digits_value 10 (decimal (n / 10 ^ p))) fraction in
      let front : digits_value 10 (decimal (n / 10 ^ p)) * 10 ^ length fraction ≡ n / 10 ^ p * 10 ^ p = ap (λ x. x * 10 ^ length fraction) whole.1 ∙ ap (λ l. n / 10 ^ p * 10 ^ l) (fraction_length p) in
      let back = fraction_value p in
      let sum = div-add-mod' n (10 ^ p) in
      omega arith

spelling_of : ℤ → ℕ → Spelling
spelling_of v p = record { sign = sign_of v; whole = decimal (unsigned_abs v / 10 ^ p); fraction = fraction_of (unsigned_abs v) p; exponent = None }

pub reads_back : (v : ℤ) (p limit : ℕ) → p ≤ 30 → limit ≤ 10 ^ 37 → unsigned_abs v ≤ limit → DecimalReads p limit (printed v p) v
unfolding spelling_of
reads_back v p limit few small within =
    let n = unsigned_abs v in
    let wide : n < 10 ^ 64 = omega arith in
    let whole = decimal_is_IsNumeral_wide (n / 10 ^ p) (whole_wide n wide p) in
    let s = spelling_of v p in
    let length_is = fraction_length n wide p in
    let digits = digits_are n wide p in
    let text : printed v p ≡ spelling_text s = ap (λ x. x ++ (decimal (n / 10 ^ p) ++ places_text n p)) (sign_is v) ∙ ap (λ x. sign_text (sign_of v) ++ (decimal (n / 10 ^ p) ++ x)) (places_is n wide p ∙ sym (append-nil (fraction_text (fraction_of n p)))) in
    let numerator : (number_of s).numerator * 10 ^ p ≡ n * 10 ^ p = (let one : (number_of s).numerator ≡ n = omega arith in ap (λ x. x * 10 ^ p) one) in
    let denominator : 10 ^ p ≡ (number_of s).denominator = ap (λ x. 10 ^ x) (let e = length_is in omega arith) in
    let P : ℕ → Type 0 = λ x. IsNearest x (10 ^ p) n in
    let Q : ℕ → Type 0 = λ d. IsNearest ((number_of s).numerator * 10 ^ p) d n in
    let nearest : IsMagnitude (number_of s) p n = subst Q denominator (subst P (sym numerator) (nearest_whole n (10 ^ p) (ten_pos p))) in (
      number_of s,
      record { spelling = s; form = record { whole = whole.0.1; fraction = fraction_form n wide p; some = (let some = whole.0.0 in omega arith); exponent = tt }; is = text; value = refl },
      record { value = record { magnitude = n; nearest = nearest; is = value_is v }; within = within; stays = λ h. (let none : n ≡ 0 = ap unsigned_abs h in omega arith) },
    )

-- Numbers of few digits.
use Rattle.std.proofs.Common.{◌≡◌, ℕ, zero, suc, ◌+◌, ◌-◌, ◌*◌, ◌^◌, ◌<◌, ◌≤◌, Bool, false, List, [], ◌∷◌, ◌++◌, length, take, drop, get_or, Option, IfSome, take-append-drop, Some, None, ℤ, pos, arith, ap, sym, ◌∙◌, refl, subst, mul_assoc, codes}
use Rattle.std.specs.Prelude.{unsigned_abs}
use Rattle.std.specs.Option.{SomeIff}
use Rattle.std.specs.Char.{IsAsciiAlphabetic, IsAsciiDigit}
use Rattle.std.specs.Str.Parse.{AllDigits, digits_value, digits_value_after}
use Rattle.std.proofs.Math.Nat.{mul-le-mul_right}
use Rattle.std.proofs.lemmas.Int.Digits.{digits_value-lt}
use Rattle.std.proofs.lemmas.List.{append-nil, length-append, length-take-le, take_all}
use Rattle.std.proofs.lemmas.List.Elements.{All-nil}
use Rattle.fixed_decimal.specs.Number.{is_minus, sign_text, fraction_text, fraction_digits, spelling_text, Spelling, Number, number_of, IsDecimal}
use Rattle.fixed_decimal.specs.Spice.{IsSpice}
use Rattle.fixed_decimal.specs.Value.{IsNearest, IsValue, DecimalReads, SpiceReads, signed}
use Rattle.fixed_decimal.specs.Short.{IsShort}
use Rattle.fixed_decimal.specs.inside.Short.{IsExactly, IsRaised, IsShortFraction}
use Rattle.fixed_decimal.specs.inside.Split.{TakesSign, IsRun, begins_digit, begins_sign}
use Rattle.fixed_decimal.proofs.Spellings.{sign_unique, digits_unique, digit_no_sign}
use Rattle.fixed_decimal.proofs.Answering.{abs_signed}
use Rattle.fixed_decimal.proofs.Powers.{ten_pos, ten_add, ten_le}
use Rattle.fixed_decimal.proofs.Rounding.{nearest_whole}
use Rattle.fixed_decimal.proofs.Runs.{value_after_more, value_of_digit, run_more, value_after_append}
use Rattle.fixed_decimal.proofs.Settled.{scaled_by_one}
use Rattle.fixed_decimal.proofs.Taking.{rest_is}

-- The digits that are read so far, after those of before.
pub record FewSoFar (before : ℕ) (text : List ℕ) (i value : ℕ) : Type 0 where
  pub form : AllDigits 10 (take i text)
  pub is : value ≡ digits_value_after 10 before (take i text)
  pub few : value < 10 ^ 18

-- One digit more is read.
pub few_step : (before : ℕ) (text : List ℕ) (i value : ℕ) → i < length text → IsAsciiDigit (get_or text i 0) → value < 10 ^ 17 → FewSoFar before text i value → FewSoFar before text (i + 1) (value * 10 + (get_or text i 0 - 48))
few_step before text i value within digit less so_far = record {
  form = run_more text i within digit so_far.form;
  is =
      let more = value_after_more before text i within in
      let worth = value_of_digit (get_or text i 0) digit in
      let is = so_far.is in
      omega arith;
  few = let high = digit.1 in omega arith;
}

-- A product is 0 where its first factor is, if the other is not.
no_factor : (a b : ℕ) → 0 < b → a * b ≡ 0 → a ≡ 0
no_factor zero b some e = refl
no_factor (suc a) b some e = absurd (let more : suc a * b ≡ a * b + b = omega arith in omega arith)

-- Zeros after the digits.
pub raised_is : (digits decimals places zeros unit : ℕ) → decimals ≤ places → zeros ≡ places - decimals → unit ≡ 10 ^ zeros → IsRaised digits decimals places (digits * unit)
raised_is digits decimals places zeros unit within rest is =
    let sum : places ≡ zeros + decimals = omega arith in
    let both : 10 ^ places ≡ 10 ^ zeros * 10 ^ decimals = ap (λ n. 10 ^ n) sum ∙ ten_add zeros decimals in
    let product : digits * unit * 10 ^ decimals ≡ digits * (unit * 10 ^ decimals) = mul_assoc digits unit (10 ^ decimals) in
    product ∙ ap (λ n. digits * n) (ap (λ n. n * 10 ^ decimals) is ∙ sym both)

pub raised_if : (r : Option ℕ) (fits : Type 0) (digits decimals places product : ℕ) → SomeIff r fits product → IsRaised digits decimals places product → IfSome r (IsRaised digits decimals places)
raised_if None fits digits decimals places product h is = tt
raised_if (Some x) fits digits decimals places product h is = subst (λ n. IsRaised digits decimals places n) (sym h.1) is

-- Digits, a point, and digits.
pub exactly_pointed : (text after whole : List ℕ) (places m : ℕ) → text ≡ whole ++ (codes "." ++ after) → 0 < length whole → AllDigits 10 whole → AllDigits 10 after → IsRaised (digits_value_after 10 (digits_value 10 whole) after) (length after) places m → IsExactly text places m
exactly_pointed text after whole places m both some form more is = record {
  whole = whole;
  fraction = Some after;
  form = record {
    is = both ∙ ap (λ x. whole ++ x) (ap (λ x. codes "." ++ x) (sym (append-nil after)));
    whole_form = form;
    fraction_form = more;
    some = omega arith;
  };
  is = subst (λ n. IsRaised n (length after) places m) (sym (value_after_append 0 whole after)) is;
}

-- The same of a text whose digits before the point are counted.
pub exactly_after : (text after : List ℕ) (before whole places : ℕ) (r : Option ℕ) → before ≤ length text → take (length text - before) (drop before text) ≡ codes "." ++ after → 0 < before → AllDigits 10 (take before text) → whole ≡ digits_value 10 (take before text)
    → IfSome r (λ m. AllDigits 10 after) → IfSome r (IsRaised (digits_value_after 10 whole after) (length after) places) → IfSome r (IsExactly text places)
exactly_after text after before whole places None within point some form is more raised = tt
exactly_after text after before whole places (Some m) within point some form is more raised =
    let both : text ≡ take before text ++ (codes "." ++ after) = sym (take-append-drop before text) ∙ ap (λ x. take before text ++ x) (sym (rest_is text before) ∙ point) in
    let count = length-take-le before text within in
    exactly_pointed text after (take before text) places m both (omega arith) form more (subst (λ n. IsRaised (digits_value_after 10 n after) (length after) places m) is raised)

module _ (text unsigned : List ℕ) (negative : Bool) (places limit m : ℕ) (sign : TakesSign text negative unsigned) (a : IsExactly unsigned places m) (most : m ≤ limit) where
  spelling : Spelling
  spelling = record { sign = sign.sign; whole = a.whole; fraction = a.fraction; exponent = None }

  number : Number
  unfolding spelling
  number = number_of spelling

  is_number : IsDecimal text number
  unfolding spelling number
  is_number = record {
    spelling = spelling;
    form = record { whole = a.form.whole_form; fraction = a.form.fraction_form; some = a.form.some; exponent = tt };
    is = sign.is ∙ ap (λ x. sign_text sign.sign ++ x) a.form.is;
    value = refl;
  }

  decimals : ℕ
  decimals = length (fraction_digits a.fraction)

  digits : ℕ
  digits = digits_value 10 (a.whole ++ fraction_digits a.fraction)

  exact : m * number.denominator ≡ number.numerator * 10 ^ places
  unfolding spelling number decimals digits
  exact =
      let is : m * 10 ^ decimals ≡ digits * 10 ^ places = a.is in
      let one : digits * 1 ≡ digits = omega arith in
      let none : decimals + 0 ≡ decimals = omega arith in
      ap (λ n. m * 10 ^ n) none ∙ (is ∙ sym (ap (λ n. n * 10 ^ places) one))

  nearest : IsNearest (number.numerator * 10 ^ places) number.denominator m
  unfolding spelling number
  nearest = subst (λ n. IsNearest n number.denominator m) exact (nearest_whole m number.denominator (ten_pos _))

  nothing : signed negative m ≡ pos 0 → number.numerator ≡ 0
  nothing h =
      let zero : m ≡ 0 = sym (abs_signed negative m) ∙ ap unsigned_abs h in
      let none : 0 * number.denominator ≡ 0 = omega arith in
      let e : 0 ≡ number.numerator * 10 ^ places = sym none ∙ (sym (ap (λ n. n * number.denominator) zero) ∙ exact) in
      no_factor number.numerator (10 ^ places) (ten_pos places) (sym e)

  pub short_reads : DecimalReads places limit text (signed negative m)
  unfolding spelling number
  short_reads = (
    number,
    is_number,
    record {
      value = record { magnitude = m; nearest = nearest; is = ap (λ b. signed b m) sign.negative_is };
      within = let e = abs_signed negative m in omega arith;
      stays = nothing;
    },
  )

-- A value within a limit is within a greater one.
pub reads_wider : (places limit more : ℕ) (text : List ℕ) (v w : ℤ) → limit ≤ more → w ≡ v → DecimalReads places limit text v → DecimalReads places more text w
reads_wider places limit more text v w le same (n, is, a) = (
  n,
  is,
  record {
    value = subst (λ z. IsValue n places z) (sym same) a.value;
    within = let within = a.within in let e : unsigned_abs w ≡ unsigned_abs v = ap unsigned_abs same in omega arith;
    stays = λ zero. a.stays (sym same ∙ zero);
  },
)

-- A number without a scale is one whose scale is 1.
decimal_is_spice : (text : List ℕ) (n : Number) → IsDecimal text n → IsSpice text n
decimal_is_spice text n is = record {
  spelling = is.spelling;
  letters = [];
  form = is.form;
  scale = record { only_letters = All-nil IsAsciiAlphabetic; no_mil = refl };
  is = is.is ∙ sym (append-nil (spelling_text is.spelling));
  value = is.value ∙ sym (scaled_by_one (number_of is.spelling));
}

pub spice_reads_wider : (places limit more : ℕ) (text : List ℕ) (v w : ℤ) → limit ≤ more → w ≡ v → DecimalReads places limit text v → SpiceReads places more text w
spice_reads_wider places limit more text v w le same reads =
    let wider = reads_wider places limit more text v w le same reads in
    (wider.0, decimal_is_spice text wider.0 wider.1, wider.2)

-- ## values that stand surely

begins_no_sign : (ds rest : List ℕ) → 0 < length ds → AllDigits 10 ds → begins_sign (ds ++ rest) ≡ false
begins_no_sign [] rest some form = absurd (omega arith)
begins_no_sign (d ∷ ds) rest some form = digit_no_sign d (ds ++ rest) form.0

fraction_no_digit : (fraction : Option (List ℕ)) → begins_digit (fraction_text fraction) ≡ false
fraction_no_digit None = refl
fraction_no_digit (Some ds) = refl

-- So few digits are within the limit.
fits : (digits before decimals places whole limit : ℕ) → digits < 10 ^ (before + decimals) → decimals ≤ places → before ≤ whole → 10 ^ (whole + places) ≤ limit →
    digits * 10 ^ (places - decimals) ≤ limit
fits digits before decimals places whole limit few within most is =
    let low : digits * 10 ^ (places - decimals) ≤ 10 ^ (before + decimals) * 10 ^ (places - decimals) = mul-le-mul_right (10 ^ (places - decimals)) (omega arith) in
    let sum : before + decimals + (places - decimals) ≡ before + places = omega arith in
    let product : 10 ^ (before + decimals) * 10 ^ (places - decimals) ≡ 10 ^ (before + places) = sym (ten_add (before + decimals) (places - decimals)) ∙ ap (λ n. 10 ^ n) sum in
    let high : 10 ^ (before + places) ≤ 10 ^ (whole + places) = ten_le (before + places) (whole + places) (omega arith) in
    omega arith

all_after : (xs ys : List ℕ) → AllDigits 10 xs → AllDigits 10 ys → AllDigits 10 (xs ++ ys)
all_after [] ys h k = k
all_after (x ∷ xs) ys h k = (h.0, all_after xs ys h.1 k)

-- A text of few digits has a value.
pub short_has : (text : List ℕ) (whole decimals : ℕ) → IsShort whole decimals text → (places limit : ℕ) → decimals ≤ places → 10 ^ (whole + places) ≤ limit →
    (value : ℤ) × DecimalReads places limit text value
short_has text whole decimals s places limit enough fit =
    let after = fraction_digits s.fraction in
    let f = length after in
    let all = s.before ++ after in
    let digits = digits_value 10 all in
    let few : digits < 10 ^ length all = digits_value-lt 10 all (all_after s.before after s.before_form s.fraction_form) in
    let less : digits < 10 ^ (length s.before + f) = subst (λ n. digits < 10 ^ n) (length-append s.before after) few in
    let within : f ≤ places = let most = s.few_decimals in omega arith in
    let m = digits * 10 ^ (places - f) in
    let sign : TakesSign text (is_minus s.sign) (s.before ++ fraction_text s.fraction) = record {
      sign = s.sign;
      is = s.is;
      negative_is = refl;
      ends = λ _. begins_no_sign s.before (fraction_text s.fraction) s.some s.before_form;
    } in
    let is : IsExactly (s.before ++ fraction_text s.fraction) places m = record {
      whole = s.before;
      fraction = s.fraction;
      form = record {
        is = ap (λ x. s.before ++ x) (sym (append-nil (fraction_text s.fraction)));
        whole_form = s.before_form;
        fraction_form = s.fraction_form;
        some = let some = s.some in omega arith;
      };
      is = raised_is digits f places (places - f) (10 ^ (places - f)) within refl refl;
    } in
    (signed (is_minus s.sign) m, short_reads text (s.before ++ fraction_text s.fraction) (is_minus s.sign) places limit m sign is (fits digits (length s.before) f places whole limit less within s.few fit))

-- ## which texts have few digits

module _ (text unsigned : List ℕ) (negative : Bool) (count whole decimals : ℕ) (sign : TakesSign text negative unsigned) (run : IsRun unsigned count) where
  -- The digits are those that stand in front, and what follows them is the fraction.
  parts : (s : IsShort whole decimals text) → (take count unsigned ≡ s.before) × (drop count unsigned ≡ fraction_text s.fraction)
  parts s =
      let same = sign_unique sign.sign s.sign unsigned (s.before ++ fraction_text s.fraction) (sym sign.is ∙ s.is) sign.ends
      (λ _. begins_no_sign s.before (fraction_text s.fraction) s.some s.before_form) in
      digits_unique (take count unsigned) s.before (drop count unsigned) (fraction_text s.fraction) (take-append-drop count unsigned ∙ same.1) run.digits s.before_form run.ends
      (fraction_no_digit s.fraction)

  counted : (s : IsShort whole decimals text) → count ≡ length s.before
  counted s = sym (length-take-le count unsigned run.within) ∙ ap length (parts s).0

  pub short_none : count ≡ 0 → IsShort whole decimals text → ⊥
  short_none none s = let e = counted s in let some = s.some in omega arith

  pub short_not : whole < count → IsShort whole decimals text → ⊥
  short_not more s = let e = counted s in let few = s.few in omega arith

  pub short_is : 0 < count → count ≤ whole → IsShortFraction decimals (drop count unsigned) → IsShort whole decimals text
  short_is some most f = record {
    sign = sign.sign;
    before = take count unsigned;
    fraction = f.fraction;
    is = sign.is ∙ ap (λ x. sign_text sign.sign ++ x) (sym (take-append-drop count unsigned) ∙ ap (λ x. take count unsigned ++ x) f.is);
    before_form = run.digits;
    fraction_form = f.form;
    some = let e = length-take-le count unsigned run.within in omega arith;
    few = let e = length-take-le count unsigned run.within in omega arith;
    few_decimals = f.few;
  }

  pub short_after : IsShort whole decimals text → IsShortFraction decimals (drop count unsigned)
  short_after s = record { fraction = s.fraction; is = (parts s).1; form = s.fraction_form; few = s.few_decimals }

-- ## fractions

module _ (decimals : ℕ) (text after : List ℕ) (is : text ≡ codes "." ++ after) (count : ℕ) (run : IsRun after count) where
  pub fraction_is : count ≡ length after → length after ≤ decimals → IsShortFraction decimals text
  fraction_is all few = record {
    fraction = Some after;
    is = is;
    form = subst (AllDigits 10) (take_all count after (omega arith)) run.digits;
    few = few;
  }

  pub fraction_digits_are : (f : IsShortFraction decimals text) → fraction_digits f.fraction ≡ after
  fraction_digits_are f = by f.fraction (sym is ∙ f.is)
    where
      by : (o : Option (List ℕ)) → codes "." ++ after ≡ fraction_text o → fraction_digits o ≡ after
      by None e = absurd (let size = ap length e in omega arith)
      by (Some ds) e = cc

  pub fraction_all : IsShortFraction decimals text → count ≡ length after
  fraction_all f =
      let are : AllDigits 10 after = subst (AllDigits 10) (fraction_digits_are f) f.form in
      let both : take count after ++ drop count after ≡ after ++ [] = take-append-drop count after ∙ sym (append-nil after) in
      let same = digits_unique (take count after) after (drop count after) [] both run.digits are run.ends refl in
      sym (length-take-le count after run.within) ∙ ap length same.0

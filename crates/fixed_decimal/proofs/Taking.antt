-- A text is taken apart from its front.
use Rattle.std.proofs.Common.{◌≡◌, ℕ, ◌+◌, ◌-◌, ◌<◌, Bool, true, false, List, [], ◌∷◌, ◌++◌, length, take, drop, Option, Some, None, arith, ap, sym, ◌∙◌, refl, subst, append_assoc, take-append-drop, codes, if◌then◌else◌}
use Rattle.std.specs.Str.Parse.{IsNumeral, digits_value, digits_value_after}
use Rattle.std.proofs.lemmas.List.{take_rest, length-take-le}
use Rattle.fixed_decimal.specs.declared.digits.Digits.{Digits}
use Rattle.fixed_decimal.specs.declared.decimal.Decimal.{Decimal}
use Rattle.fixed_decimal.specs.inside.Kept.{Keeps, IsCapped}
use Rattle.fixed_decimal.specs.Number.{sign_text, Exponent, exponent_text, exponent_up, exponent_down, letter_text, fraction_text, fraction_digits, Spelling, IsSpelling, spelling_text}
use Rattle.fixed_decimal.specs.inside.Split.{begins_digit, begins_point, begins_exponent, EndsExponent, EndsFraction, IsMantissa, TakesMantissa, TakesSign, TakesExponent, IsRun, Splits}
use Rattle.fixed_decimal.proofs.Keeping.{capped_add}
use Rattle.fixed_decimal.proofs.Runs.{value_after_append}
use Rattle.fixed_decimal.proofs.Spellings.{is_digit, sign_unique, mantissa_no_sign, parts_of}

-- What is left of a text after so many bytes.
pub rest_is : (text : List ℕ) (n : ℕ) → take (length text - n) (drop n text) ≡ drop n text
rest_is text n = take_rest text n

nothing_kept : (digits : Digits) → IsCapped 0 0
nothing_kept digits = record { most = omega arith; exact = λ _. refl }

capped_zero : IsCapped 0 0
capped_zero = record { most = omega arith; exact = λ _. refl }

-- ---- mantissas.
pub mantissa_pointed : (text after : List ℕ) (before decimals : ℕ) (first digits : Digits) → IsRun text before → take (length text - before) (drop before text) ≡ codes "." ++ after → IsRun after decimals
    → Keeps (digits_value_after 10 0 (take before text)) first → ((n : ℕ) → Keeps n first → Keeps (digits_value_after 10 n (take decimals after)) digits) → 0 < before + decimals
    → TakesMantissa text digits decimals (take (length after - decimals) (drop decimals after))
mantissa_pointed text after before decimals first digits one is two start more some = record {
  whole = take before text;
  fraction = Some (take decimals after);
  form = record {
    is =
        let rest = rest_is after decimals in
        let inner : after ≡ take decimals after ++ take (length after - decimals) (drop decimals after) = sym (ap (λ x. take decimals after ++ x) rest ∙ take-append-drop decimals after) in
        let outer : take before text ++ drop before text ≡ text = take-append-drop before text in
        let point : drop before text ≡ codes "." ++ after = sym (rest_is text before) ∙ is in
        sym outer ∙ ap (λ x. take before text ++ x) (point ∙ ap (λ x. codes "." ++ x) inner);
    whole_form = one.digits;
    fraction_form = two.digits;
    some =
        (let a = length-take-le before text one.within in
        let b = length-take-le decimals after two.within in
        omega arith);
  };
  ends = (let P : List ℕ → Type 0 = λ x. begins_digit x ≡ false in subst P (sym (rest_is after decimals)) two.ends);
  keeps = (let P : ℕ → Type 0 = λ n. Keeps n digits in subst P (sym (value_after_append 0 (take before text) (take decimals after))) (more (digits_value 10 (take before text)) start));
  decimals_is = sym (length-take-le decimals after two.within);
}

-- Neither digit nor point stands first, or a point and no digit after it.
pub no_mantissa_at_point : (text after whole : List ℕ) (fraction : Option (List ℕ)) (rest : List ℕ) → text ≡ codes "." ++ after → begins_digit after ≡ false → IsMantissa text whole fraction rest → ⊥
no_mantissa_at_point text after (c ∷ cs) fraction rest is none m =
    let a = ap begins_digit (sym is ∙ m.is) in let b = is_digit c m.whole_form.0 in cc
no_mantissa_at_point text after [] None rest is none m = let some = m.some in omega arith
no_mantissa_at_point text after [] (Some []) rest is none m = let some = m.some in omega arith
no_mantissa_at_point text after [] (Some (d ∷ ds)) rest is none m =
    let same : codes "." ++ after ≡ codes "." ++ (d ∷ (ds ++ rest)) = sym is ∙ m.is in
    let tails : after ≡ d ∷ (ds ++ rest) = cc in
    let a = ap begins_digit tails in let b = is_digit d m.fraction_form.0 in cc

-- ---- exponents.
module _ (text after digits : List ℕ) (capital negative : Bool) (count value : ℕ) (is : text ≡ letter_text capital ++ after) (sign : TakesSign after negative digits) (run : IsRun digits count) (some : 0 < count) (capped : IsCapped (digits_value 10 (take count digits)) value) where
  the_exponent : Exponent
  the_exponent = record { capital = capital; sign = sign.sign; digits = take count digits }

  exponent_is : text ≡ exponent_text (Some the_exponent) ++ drop count digits
  unfolding the_exponent
  exponent_is =
      let inner : sign_text sign.sign ++ digits ≡ sign_text sign.sign ++ (take count digits ++ drop count digits) = ap (λ x. sign_text sign.sign ++ x) (sym (take-append-drop count digits)) in
      let order : (letter_text capital ++ (sign_text sign.sign ++ take count digits)) ++ drop count digits ≡ letter_text capital ++ (sign_text sign.sign ++ (take count digits ++ drop count digits)) = simp append_assoc in
      is ∙ (ap (λ x. letter_text capital ++ x) (sign.is ∙ inner) ∙ sym order)

  numeral : IsNumeral 10 (take count digits)
  numeral = (let a = length-take-le count digits run.within in omega arith, run.digits)

  up_true : negative ≡ true → IsCapped (exponent_up (Some the_exponent)) 0
  unfolding the_exponent
  up_true h =
      let P : Bool → Type 0 = λ b. IsCapped (if b then 0 else digits_value 10 (take count digits)) 0 in
      subst P (sym h ∙ sign.negative_is) capped_zero

  down_true : negative ≡ true → IsCapped (exponent_down (Some the_exponent)) value
  unfolding the_exponent
  down_true h =
      let P : Bool → Type 0 = λ b. IsCapped (if b then digits_value 10 (take count digits) else 0) value in
      subst P (sym h ∙ sign.negative_is) capped

  up_false : negative ≡ false → IsCapped (exponent_up (Some the_exponent)) value
  unfolding the_exponent
  up_false h =
      let P : Bool → Type 0 = λ b. IsCapped (if b then 0 else digits_value 10 (take count digits)) value in
      subst P (sym h ∙ sign.negative_is) capped

  down_false : negative ≡ false → IsCapped (exponent_down (Some the_exponent)) 0
  unfolding the_exponent
  down_false h =
      let P : Bool → Type 0 = λ b. IsCapped (if b then digits_value 10 (take count digits) else 0) 0 in
      subst P (sym h ∙ sign.negative_is) capped_zero

  pub exponent_negative : negative ≡ true → TakesExponent text 0 value (take (length digits - count) (drop count digits))
  unfolding the_exponent
  exponent_negative h =
      let P : List ℕ → Type 0 = λ x. TakesExponent text 0 value x in
      subst P (sym (rest_is digits count)) (record {
        exponent = Some the_exponent;
        is = exponent_is;
        form = numeral;
        ends = run.ends;
        up_is = up_true h;
        down_is = down_true h;
      })

  pub exponent_positive : negative ≡ false → TakesExponent text value 0 (take (length digits - count) (drop count digits))
  unfolding the_exponent
  exponent_positive h =
      let P : List ℕ → Type 0 = λ x. TakesExponent text value 0 x in
      subst P (sym (rest_is digits count)) (record {
        exponent = Some the_exponent;
        is = exponent_is;
        form = numeral;
        ends = run.ends;
        up_is = up_false h;
        down_is = down_false h;
      })

-- ---- whole numbers
-- a text of which the part after the sign is no mantissa has no spelling.
pub no_spelling : (text unsigned : List ℕ) (negative : Bool) → TakesSign text negative unsigned → ((whole : List ℕ) (fraction : Option (List ℕ)) (rest : List ℕ) → IsMantissa unsigned whole fraction rest → ⊥)
    → (s : Spelling) (rest : List ℕ) → IsSpelling s → text ≡ spelling_text s ++ rest → ⊥
no_spelling text unsigned negative sign none s rest form is =
    let decimals = exponent_text s.exponent ++ rest in
    let same = sign_unique sign.sign s.sign unsigned (s.whole ++ (fraction_text s.fraction ++ decimals)) (sym sign.is ∙ (is ∙ parts_of s rest)) sign.ends (λ _. mantissa_no_sign s.whole s.fraction decimals form.whole form.some) in
    none s.whole s.fraction decimals (record { is = same.1; whole_form = form.whole; fraction_form = form.fraction; some = form.some })

ends_digit : (fraction : Option (List ℕ)) (exponent : Option Exponent) (after rest : List ℕ) → EndsFraction fraction after → after ≡ exponent_text exponent ++ rest → EndsExponent exponent rest → begins_digit rest ≡ false
ends_digit None None after rest h e g = sym (ap begins_digit e) ∙ h.0
ends_digit (Some ds) None after rest h e g = sym (ap begins_digit e) ∙ h
ends_digit fraction (Some x) after rest h e g = g

ends_point : (fraction : Option (List ℕ)) (exponent : Option Exponent) (after rest : List ℕ) → EndsFraction fraction after → after ≡ exponent_text exponent ++ rest → fraction ≡ None → exponent ≡ None → begins_point rest ≡ false
ends_point None None after rest h e f g = sym (ap begins_point e) ∙ h.1
ends_point (Some ds) exponent after rest h e f g = absurd (let same : ◌≡◌ {A = Option (List ℕ)} (Some ds) None = f in cc)
ends_point None (Some x) after rest h e f g = absurd (let same : ◌≡◌ {A = Option Exponent} (Some x) None = g in cc)

ends_letter : (exponent : Option Exponent) (rest : List ℕ) → EndsExponent exponent rest → exponent ≡ None → begins_exponent rest ≡ false
ends_letter None rest h g = h
ends_letter (Some x) rest h g = absurd (let same : ◌≡◌ {A = Option Exponent} (Some x) None = g in cc)

pub splits : (text unsigned after rest : List ℕ) (negative : Bool) (digits : Digits) (decimals up down : ℕ) (decimal : Decimal) → TakesSign text negative unsigned → TakesMantissa unsigned digits decimals after → TakesExponent after up down rest
    → decimal.negative ≡ negative → decimal.digits ≡ digits → decimal.up ≡ up → decimal.down ≡ down + decimals → Splits text decimal rest
splits text unsigned after rest negative digits decimals up down decimal sign m x a b e f = record {
  spelling = record { sign = sign.sign; whole = m.whole; fraction = m.fraction; exponent = x.exponent };
  form = record { whole = m.form.whole_form; fraction = m.form.fraction_form; some = m.form.some; exponent = x.form };
  is =
      (let order : (sign_text sign.sign ++ (m.whole ++ (fraction_text m.fraction ++ exponent_text x.exponent))) ++ rest ≡ sign_text sign.sign ++ (m.whole ++ (fraction_text m.fraction ++ (exponent_text x.exponent ++ rest))) = simp append_assoc in
      sign.is ∙ (ap (λ y. sign_text sign.sign ++ y) (m.form.is ∙ ap (λ y. m.whole ++ (fraction_text m.fraction ++ y)) x.is) ∙ sym order));
  ends = record {
    digit = ends_digit m.fraction x.exponent after rest m.ends x.is x.ends;
    point = λ f g. ends_point m.fraction x.exponent after rest m.ends x.is f g;
    exponent = λ g. ends_letter x.exponent rest x.ends g;
  };
  negative = a ∙ sign.negative_is;
  describes = record {
    written = digits_value 10 (m.whole ++ fraction_digits m.fraction);
    power = exponent_up x.exponent;
    over = length (fraction_digits m.fraction) + exponent_down x.exponent;
    keeps = (let P : Digits → Type 0 = λ d. Keeps (digits_value 10 (m.whole ++ fraction_digits m.fraction)) d in subst P (sym b) m.keeps);
    up_is = (let P : ℕ → Type 0 = λ u. IsCapped (exponent_up x.exponent) u in subst P (sym e) x.up_is);
    down_is =
        (let sum = capped_add (exponent_down x.exponent) down (length (fraction_digits m.fraction)) x.down_is in
        let order : exponent_down x.exponent + length (fraction_digits m.fraction) ≡ length (fraction_digits m.fraction) + exponent_down x.exponent = omega arith in
        let same : down + length (fraction_digits m.fraction) ≡ decimal.down = sym (f ∙ ap (λ y. down + y) m.decimals_is) in
        let P : ℕ → Type 0 = λ y. IsCapped y (down + length (fraction_digits m.fraction)) in
        let Q : ℕ → Type 0 = λ y. IsCapped (length (fraction_digits m.fraction) + exponent_down x.exponent) y in
        subst Q same (subst P order sum));
    numerator = refl;
    denominator = refl;
  };
}

-- The one answer to a text.
use Rattle.std.proofs.Common.{◌≡◌, ℕ, ◌*◌, ◌^◌, ◌<◌, ◌≤◌, Bool, true, false, ◌&&◌, List, [], ◌∷◌, ◌++◌, length, ℤ, pos, All, Result, Ok, Err, ◌↔◌, arith, ap, sym, ◌∙◌, refl, subst}
use Rattle.std.specs.Prelude.{unsigned_abs}
use Rattle.std.specs.Char.{IsAsciiAlphabetic, is_ascii_digit}
use Rattle.std.proofs.lemmas.List.{append-nil, nil_from_length}
use Rattle.std.proofs.lemmas.List.Elements.{All-head, All-tail}
use Rattle.fixed_decimal.specs.declared.decimal.Decimal.{Decimal}
use Rattle.fixed_decimal.specs.declared.error.DecimalError.{DecimalError}
use Rattle.fixed_decimal.specs.declared.error.DecimalError.TheVariants.{NotNumber, Vanishes as ItVanishes, Range}
use Rattle.fixed_decimal.specs.declared.scale.Scale.{Scale}
use Rattle.fixed_decimal.specs.inside.Kept.{AnswersNumber}
use Rattle.fixed_decimal.specs.Number.{Number, Spelling, IsSpelling, spelling_text, number_of, IsDecimal}
use Rattle.fixed_decimal.specs.inside.Split.{begins_digit, begins_point, begins_sign, begins_exponent, without_sign, EndsNumber, Splits}
use Rattle.fixed_decimal.specs.Spice.{IsSpice, IsScaleText, scaled, scale_of}
use Rattle.fixed_decimal.specs.Value.{IsValue, IsWithin, IsAnswer, Vanishes, IsAbove, StandsFor, signed}
use Rattle.fixed_decimal.proofs.Answering.{abs_signed}
use Rattle.fixed_decimal.proofs.Rounding.{nearest_unique}
use Rattle.fixed_decimal.proofs.Spellings.{spelling_unique}

-- ---- at most one value.
pub value_unique : (n : Number) (places : ℕ) (v w : ℤ) → IsValue n places v → IsValue n places w → v ≡ w
value_unique n places v w a b =
    let same = nearest_unique (n.numerator * 10 ^ places) n.denominator a.magnitude b.magnitude a.nearest b.nearest in
    a.is ∙ (ap (λ m. signed n.negative m) same ∙ sym b.is)

magnitude_of : (n : Number) (places limit : ℕ) (v : ℤ) (a : IsWithin n places limit v) → a.value.magnitude ≤ limit
magnitude_of n places limit v a =
    let within = a.within in
    let e : unsigned_abs v ≡ a.value.magnitude = ap unsigned_abs a.value.is ∙ abs_signed n.negative a.value.magnitude in
    omega arith

signed_zero : (negative : Bool) → signed negative 0 ≡ pos 0
signed_zero false = refl
signed_zero true = refl

-- Three of the answers exclude each other.
read_no_vanishing : (n : Number) (places limit : ℕ) (v : ℤ) → IsWithin n places limit v → Vanishes n places → ⊥
read_no_vanishing n places limit v a b =
    let none = nearest_unique (n.numerator * 10 ^ places) n.denominator a.value.magnitude 0 a.value.nearest b.nothing in
    let zero_value : v ≡ pos 0 = a.value.is ∙ (ap (λ m. signed n.negative m) none ∙ signed_zero n.negative) in
    let e = a.stays zero_value in
    let other = b.other in
    omega arith

read_no_range : (n : Number) (places limit : ℕ) (v : ℤ) → IsWithin n places limit v → IsAbove n places limit → ⊥
read_no_range n places limit v a b =
    let same = nearest_unique (n.numerator * 10 ^ places) n.denominator a.value.magnitude b.magnitude a.value.nearest b.nearest in
    let most = magnitude_of n places limit v a in
    let above = b.above in
    omega arith

vanishing_no_range : (n : Number) (places limit : ℕ) → Vanishes n places → IsAbove n places limit → ⊥
vanishing_no_range n places limit a b =
    let same = nearest_unique (n.numerator * 10 ^ places) n.denominator 0 b.magnitude a.nothing b.nearest in
    let above = b.above in
    omega arith

pub value_back : (n : Number) (places limit : ℕ) (r : Result ℤ DecimalError) (v : ℤ) → AnswersNumber n places limit r → IsWithin n places limit v → r ≡ Ok v
value_back n places limit (Ok w) v a b = ap Ok (value_unique n places w v a.value b.value)
value_back n places limit (Err NotNumber) v a b = absurd a
value_back n places limit (Err ItVanishes) v a b = absurd (read_no_vanishing n places limit v b a)
value_back n places limit (Err Range) v a b = absurd (read_no_range n places limit v b a)

pub vanishes_back : (n : Number) (places limit : ℕ) (r : Result ℤ DecimalError) → AnswersNumber n places limit r → Vanishes n places → r ≡ Err ItVanishes
vanishes_back n places limit (Ok w) a b = absurd (read_no_vanishing n places limit w a b)
vanishes_back n places limit (Err NotNumber) a b = absurd a
vanishes_back n places limit (Err ItVanishes) a b = refl
vanishes_back n places limit (Err Range) a b = absurd (vanishing_no_range n places limit b a)

pub range_back : (n : Number) (places limit : ℕ) (r : Result ℤ DecimalError) → AnswersNumber n places limit r → IsAbove n places limit → r ≡ Err Range
range_back n places limit (Ok w) a b = absurd (read_no_range n places limit w a b)
range_back n places limit (Err NotNumber) a b = absurd a
range_back n places limit (Err ItVanishes) a b = absurd (vanishing_no_range n places limit a b)
range_back n places limit (Err Range) a b = refl

-- ---- a text that stands for a number.
module _ (form : List ℕ → Number → Type 0) (text : List ℕ) (places limit : ℕ) (r : Result ℤ DecimalError) (n : Number) (is : form text n) (only : (m : Number) → form text m → m ≡ n) (a : AnswersNumber n places limit r) where
  pub settled_value : (v : ℤ) → (r ≡ Ok v) ↔ StandsFor form text (λ number. IsWithin number places limit v)
  settled_value v =
      let P : Result ℤ DecimalError → Type 0 = λ x. AnswersNumber n places limit x in
      let Q : Number → Type 0 = λ m. IsWithin m places limit v in
      (λ e. (n, is, subst P e a), λ s. value_back n places limit r v a (subst Q (only s.0 s.1) s.2))

  pub settled_not_number : (r ≡ Err NotNumber) ↔ ((m : Number) → form text m → ⊥)
  settled_not_number =
      let P : Result ℤ DecimalError → Type 0 = λ x. AnswersNumber n places limit x in
      (λ e. absurd (subst P e a), λ none. absurd (none n is))

  pub settled_vanishes : (r ≡ Err ItVanishes) ↔ StandsFor form text (λ number. Vanishes number places)
  settled_vanishes =
      let P : Result ℤ DecimalError → Type 0 = λ x. AnswersNumber n places limit x in
      let Q : Number → Type 0 = λ m. Vanishes m places in
      (λ e. (n, is, subst P e a), λ s. vanishes_back n places limit r a (subst Q (only s.0 s.1) s.2))

  pub settled_range : (r ≡ Err Range) ↔ StandsFor form text (λ number. IsAbove number places limit)
  settled_range =
      let P : Result ℤ DecimalError → Type 0 = λ x. AnswersNumber n places limit x in
      let Q : Number → Type 0 = λ m. IsAbove m places limit in
      (λ e. (n, is, subst P e a), λ s. range_back n places limit r a (subst Q (only s.0 s.1) s.2))

-- ---- a text that stands for none.
module _ (form : List ℕ → Number → Type 0) (text : List ℕ) (none : (m : Number) → form text m → ⊥) where
  pub no_value : (places limit : ℕ) (v : ℤ) → (◌≡◌ {A = Result ℤ DecimalError} (Err NotNumber) (Ok v)) ↔ StandsFor form text (λ number. IsWithin number places limit v)
  no_value places limit v = (λ e. absurd (cc), λ s. absurd (none s.0 s.1))

  pub no_vanishing : (places : ℕ) → (◌≡◌ {A = Result ℤ DecimalError} (Err NotNumber) (Err ItVanishes)) ↔ StandsFor form text (λ number. Vanishes number places)
  no_vanishing places = (λ e. absurd (cc), λ s. absurd (none s.0 s.1))

  pub no_range : (places limit : ℕ) → (◌≡◌ {A = Result ℤ DecimalError} (Err NotNumber) (Err Range)) ↔ StandsFor form text (λ number. IsAbove number places limit)
  no_range places limit = (λ e. absurd (cc), λ s. absurd (none s.0 s.1))

  pub not_a_number : (◌≡◌ {A = Result ℤ DecimalError} (Err NotNumber) (Err NotNumber)) ↔ ((m : Number) → form text m → ⊥)
  not_a_number = (λ e. none, λ n. refl)

-- ---- at most one number.
pub ends_nothing : (s : Spelling) → EndsNumber s []
ends_nothing s = record { digit = refl; point = λ _ _. refl; exponent = λ _. refl }

letter_no_digit : (c : ℕ) → IsAsciiAlphabetic c → is_ascii_digit c ≡ false
letter_no_digit c h = grind arith

letter_no_point : (c : ℕ) (cs : List ℕ) → IsAsciiAlphabetic c → begins_point (c ∷ cs) ≡ false
letter_no_point c cs h = grind arith

letter_no_sign : (c : ℕ) (cs : List ℕ) → IsAsciiAlphabetic c → begins_sign (c ∷ cs) ≡ false
letter_no_sign c cs h = grind arith

letters_no_digit : (cs : List ℕ) → All IsAsciiAlphabetic cs → begins_digit cs ≡ false
letters_no_digit [] h = refl
letters_no_digit (c ∷ cs) h = letter_no_digit c (All-head IsAsciiAlphabetic c cs h)

letters_no_point : (cs : List ℕ) → All IsAsciiAlphabetic cs → begins_point cs ≡ false
letters_no_point [] h = refl
letters_no_point (c ∷ cs) h = letter_no_point c cs (All-head IsAsciiAlphabetic c cs h)

letters_no_sign : (cs : List ℕ) → All IsAsciiAlphabetic cs → without_sign cs ≡ cs
letters_no_sign [] h = refl
letters_no_sign (c ∷ cs) h =
    let P : Bool → Type 0 = λ b. (elim b [ true ↦ cs | false ↦ c ∷ cs ]) ≡ c ∷ cs in
    subst P (sym (letter_no_sign c cs (All-head IsAsciiAlphabetic c cs h))) refl

and_false : (b : Bool) → (b && false) ≡ false
and_false true = refl
and_false false = refl

letters_no_exponent : (cs : List ℕ) → All IsAsciiAlphabetic cs → begins_exponent cs ≡ false
letters_no_exponent [] h = refl
letters_no_exponent (c ∷ cs) h =
    let rest = All-tail IsAsciiAlphabetic c cs h in
    let none : begins_digit (without_sign cs) ≡ false = ap begins_digit (letters_no_sign cs rest) ∙ letters_no_digit cs rest in
    rw none (and_false _)

pub ends_letters : (s : Spelling) (letters : List ℕ) → All IsAsciiAlphabetic letters → EndsNumber s letters
ends_letters s letters h = record {
  digit = letters_no_digit letters h;
  point = λ _ _. letters_no_point letters h;
  exponent = λ _. letters_no_exponent letters h;
}

-- The spelling at the front of a text that is split is that of the number.
decimal_spelling : (text : List ℕ) (decimal : Decimal) (rest : List ℕ) (split : Splits text decimal rest) (n : Number) (a : IsDecimal text n) → (split.spelling ≡ a.spelling) × (rest ≡ [])
decimal_spelling text decimal rest split n a =
    spelling_unique split.spelling a.spelling rest [] split.form a.form split.ends (ends_nothing a.spelling) (sym split.is ∙ (a.is ∙ sym (append-nil (spelling_text a.spelling))))

spice_spelling : (text : List ℕ) (decimal : Decimal) (rest : List ℕ) (split : Splits text decimal rest) (n : Number) (a : IsSpice text n) → (split.spelling ≡ a.spelling) × (rest ≡ a.letters)
spice_spelling text decimal rest split n a =
    spelling_unique split.spelling a.spelling rest a.letters split.form a.form split.ends (ends_letters a.spelling a.letters a.scale.only_letters) (sym split.is ∙ a.is)

pub no_decimal : (text : List ℕ) (decimal : Decimal) (rest : List ℕ) → Splits text decimal rest → 0 < length rest → (n : Number) → IsDecimal text n → ⊥
no_decimal text decimal rest split some n a = let e = ap length (decimal_spelling text decimal rest split n a).1 in omega arith

pub no_spice : (text : List ℕ) (decimal : Decimal) (rest : List ℕ) → Splits text decimal rest → (IsScaleText rest → ⊥) → (n : Number) → IsSpice text n → ⊥
no_spice text decimal rest split none n a = none (subst IsScaleText (sym (spice_spelling text decimal rest split n a).1) a.scale)

pub no_decimal_at_all : (text : List ℕ) → ((s : Spelling) (rest : List ℕ) → IsSpelling s → text ≡ spelling_text s ++ rest → ⊥) → (n : Number) → IsDecimal text n → ⊥
no_decimal_at_all text none n a = none a.spelling [] a.form (a.is ∙ sym (append-nil (spelling_text a.spelling)))

pub no_spice_at_all : (text : List ℕ) → ((s : Spelling) (rest : List ℕ) → IsSpelling s → text ≡ spelling_text s ++ rest → ⊥) → (n : Number) → IsSpice text n → ⊥
no_spice_at_all text none n a = none a.spelling a.letters a.form a.is

pub the_decimal : (text : List ℕ) (decimal : Decimal) (rest : List ℕ) (split : Splits text decimal rest) → length rest ≡ 0 → IsDecimal text (number_of split.spelling)
the_decimal text decimal rest split none = record {
  spelling = split.spelling;
  form = split.form;
  is = split.is ∙ (ap (λ x. spelling_text split.spelling ++ x) (nil_from_length rest none) ∙ append-nil (spelling_text split.spelling));
  value = refl;
}

pub only_decimal : (text : List ℕ) (decimal : Decimal) (rest : List ℕ) (split : Splits text decimal rest) (m : Number) → IsDecimal text m → m ≡ number_of split.spelling
only_decimal text decimal rest split m a = a.value ∙ ap number_of (sym (decimal_spelling text decimal rest split m a).0)

pub the_spice : (text : List ℕ) (decimal : Decimal) (rest : List ℕ) (split : Splits text decimal rest) (scale : Scale) → IsScaleText rest → scale ≡ scale_of rest → IsSpice text (scaled (number_of split.spelling) scale)
the_spice text decimal rest split scale form is = record {
  spelling = split.spelling;
  letters = rest;
  form = split.form;
  scale = form;
  is = split.is;
  value = ap (scaled (number_of split.spelling)) is;
}

pub only_spice : (text : List ℕ) (decimal : Decimal) (rest : List ℕ) (split : Splits text decimal rest) (scale : Scale) → scale ≡ scale_of rest → (m : Number) → IsSpice text m → m ≡ scaled (number_of split.spelling) scale
only_spice text decimal rest split scale is m a =
    let same = spice_spelling text decimal rest split m a in
    let P : Spelling → Type 0 = λ s. m ≡ scaled (number_of s) (scale_of a.letters) in
    subst P (sym same.0) a.value ∙ ap (scaled (number_of split.spelling)) (ap scale_of (sym same.1) ∙ sym is)

-- The scale of no letters changes nothing.
pub scaled_by_one : (n : Number) → scaled n (record { up = 0; down = 0 }) ≡ n
scaled_by_one n =
    let make : ℕ → ℕ → Number = λ x y. record { negative = n.negative; numerator = x; denominator = y } in
    let a : n.numerator * 1 ≡ n.numerator = omega arith in
    let b : n.denominator * 1 ≡ n.denominator = omega arith in
    let P : ℕ → Type 0 = λ x. make (n.numerator * 1) (n.denominator * 1) ≡ make x (n.denominator * 1) in
    let Q : ℕ → Type 0 = λ y. make (n.numerator * 1) (n.denominator * 1) ≡ make n.numerator y in
    subst Q b (subst P a refl)

-- The answer to the number is the answer to the text.
pub settled_answer : (form : List ℕ → Number → Type 0) (text : List ℕ) (places limit : ℕ) (r : Result ℤ DecimalError) (n : Number) → form text n → AnswersNumber n places limit r → IsAnswer form places limit text r
settled_answer form text places limit (Ok v) n is a = (n, is, a)
settled_answer form text places limit (Err NotNumber) n is a = absurd a
settled_answer form text places limit (Err ItVanishes) n is a = (n, is, a)
settled_answer form text places limit (Err Range) n is a = (n, is, a)

-- A text is spelled in one way.
use Rattle.std.proofs.Common.{◌≡◌, ℕ, ◌+◌, ◌<◌, Bool, true, false, List, [], ◌∷◌, ◌++◌, length, Option, Some, None, IfSome, arith, ap, sym, ◌∙◌, refl, subst, append_assoc}
use Rattle.std.specs.Str.Parse.{AllDigits, IsNumeral}
use Rattle.std.specs.Char.{digit_value, is_ascii_digit, IsAsciiDigit}
use Rattle.std.proofs.lemmas.Str.Parse.{digit_from_value}
use Rattle.fixed_decimal.specs.Number.{Sign, absent, plus, minus, sign_text, Exponent, exponent_text, letter_text, fraction_text, fraction_digits, Spelling, IsSpelling, spelling_text}
use Rattle.fixed_decimal.specs.inside.Split.{begins_digit, begins_point, begins_sign, begins_exponent, without_sign, EndsExponent, EndsFraction, EndsNumber}

pub is_digit : (c : ℕ) → digit_value c < 10 → is_ascii_digit c ≡ true
is_digit c h = let r : IsAsciiDigit c = digit_from_value c h in grind arith

-- No digit is a sign or a point.
pub digit_no_sign : (c : ℕ) (cs : List ℕ) → digit_value c < 10 → begins_sign (c ∷ cs) ≡ false
digit_no_sign c cs h = let r : IsAsciiDigit c = digit_from_value c h in grind arith

pub digit_no_point : (c : ℕ) (cs : List ℕ) → digit_value c < 10 → begins_point (c ∷ cs) ≡ false
digit_no_point c cs h = let r : IsAsciiDigit c = digit_from_value c h in grind arith

-- Two lists with a front have that front and the rest in common.
head_same : (a b : ℕ) (xs ys : List ℕ) → a ∷ xs ≡ b ∷ ys → a ≡ b
head_same a b xs ys e = cc

tail_same : (a b : ℕ) (xs ys : List ℕ) → a ∷ xs ≡ b ∷ ys → xs ≡ ys
tail_same a b xs ys e = cc

-- ---- signs.
pub sign_unique : (s t : Sign) (x y : List ℕ) → sign_text s ++ x ≡ sign_text t ++ y → (s ≡ absent → begins_sign x ≡ false) → (t ≡ absent → begins_sign y ≡ false) → (s ≡ t) × (x ≡ y)
sign_unique absent absent x y e h g = (refl, e)
sign_unique absent plus x y e h g = absurd (let a = h refl in let b = ap begins_sign e in cc)
sign_unique absent minus x y e h g = absurd (let a = h refl in let b = ap begins_sign e in cc)
sign_unique plus absent x y e h g = absurd (let a = g refl in let b = ap begins_sign e in cc)
sign_unique plus plus x y e h g = (refl, tail_same 43 43 x y e)
sign_unique plus minus x y e h g = absurd (let a = head_same 43 45 x y e in omega arith)
sign_unique minus absent x y e h g = absurd (let a = g refl in let b = ap begins_sign e in cc)
sign_unique minus plus x y e h g = absurd (let a = head_same 45 43 x y e in omega arith)
sign_unique minus minus x y e h g = (refl, tail_same 45 45 x y e)

-- ---- runs of digits.
pub digits_unique : (xs ys x y : List ℕ) → xs ++ x ≡ ys ++ y → AllDigits 10 xs → AllDigits 10 ys → begins_digit x ≡ false → begins_digit y ≡ false → (xs ≡ ys) × (x ≡ y)
digits_unique [] [] x y e a b h g = (refl, e)
digits_unique [] (c ∷ ys) x y e a b h g = absurd (let d = is_digit c b.0 in let f = ap begins_digit e in cc)
digits_unique (c ∷ xs) [] x y e a b h g = absurd (let d = is_digit c a.0 in let f = ap begins_digit e in cc)
digits_unique (c ∷ xs) (d ∷ ys) x y e a b h g =
    let rest = digits_unique xs ys x y (tail_same c d (xs ++ x) (ys ++ y) e) a.1 b.1 h g in
    let front = head_same c d (xs ++ x) (ys ++ y) e in
    let same = rest.0 in
    ((cc), rest.1)

-- ---- points.
pub fraction_unique : (f g : Option (List ℕ)) (x y : List ℕ) → fraction_text f ++ x ≡ fraction_text g ++ y → AllDigits 10 (fraction_digits f) → AllDigits 10 (fraction_digits g) → EndsFraction f x → EndsFraction g y → (f ≡ g) × (x ≡ y)
fraction_unique None None x y e a b h g = (refl, e)
fraction_unique None (Some ys) x y e a b h g = absurd (let p = h.1 in let f = ap begins_point e in cc)
fraction_unique (Some xs) None x y e a b h g = absurd (let p = g.1 in let f = ap begins_point e in cc)
fraction_unique (Some xs) (Some ys) x y e a b h g =
    let rest = digits_unique xs ys x y (tail_same 46 46 (xs ++ x) (ys ++ y) e) a b h g in
    (ap Some rest.0, rest.1)

-- ---- exponents
-- a numeral begins with a digit and no sign.
numeral_begins : (ds x : List ℕ) → IsNumeral 10 ds → begins_digit (ds ++ x) ≡ true
numeral_begins [] x h = absurd (let some = h.0 in omega arith)
numeral_begins (c ∷ cs) x h = is_digit c h.1.0

numeral_no_sign : (ds x : List ℕ) → IsNumeral 10 ds → begins_sign (ds ++ x) ≡ false
numeral_no_sign [] x h = absurd (let some = h.0 in omega arith)
numeral_no_sign (c ∷ cs) x h = digit_no_sign c (cs ++ x) h.1.0

unsigned_same : (x : List ℕ) → begins_sign x ≡ false → without_sign x ≡ x
unsigned_same [] h = refl
unsigned_same (c ∷ cs) h = let P : Bool → Type 0 = λ b. (elim b [ true ↦ cs | false ↦ c ∷ cs ]) ≡ c ∷ cs in subst P (sym h) refl

pub without_sign_text : (s : Sign) (x : List ℕ) → (s ≡ absent → begins_sign x ≡ false) → without_sign (sign_text s ++ x) ≡ x
without_sign_text absent x h = unsigned_same x (h refl)
without_sign_text plus x h = refl
without_sign_text minus x h = refl

pub exponent_begins : (capital : Bool) (x : List ℕ) → begins_exponent (letter_text capital ++ x) ≡ begins_digit (without_sign x)
exponent_begins false x = refl
exponent_begins true x = refl

pub begins_exponent_text : (e : Exponent) (x : List ℕ) → IsNumeral 10 e.digits → begins_exponent (exponent_text (Some e) ++ x) ≡ true
begins_exponent_text e x h =
    let order : exponent_text (Some e) ++ x ≡ letter_text e.capital ++ (sign_text e.sign ++ (e.digits ++ x)) = simp append_assoc in
    let first = ap begins_exponent order ∙ exponent_begins e.capital (sign_text e.sign ++ (e.digits ++ x)) in
    let second = ap begins_digit (without_sign_text e.sign (e.digits ++ x) (λ _. numeral_no_sign e.digits x h)) in
    first ∙ (second ∙ numeral_begins e.digits x h)

letter_unique : (a b : Bool) (x y : List ℕ) → letter_text a ++ x ≡ letter_text b ++ y → (a ≡ b) × (x ≡ y)
letter_unique false false x y e = (refl, tail_same 101 101 x y e)
letter_unique false true x y e = absurd (let f = head_same 101 69 x y e in omega arith)
letter_unique true false x y e = absurd (let f = head_same 69 101 x y e in omega arith)
letter_unique true true x y e = (refl, tail_same 69 69 x y e)

exponent_same : (e f : Exponent) → e.capital ≡ f.capital → e.sign ≡ f.sign → e.digits ≡ f.digits → e ≡ f
exponent_same e f a b c =
    let make : Bool → Sign → List ℕ → Exponent = λ capital sign digits. record { capital = capital; sign = sign; digits = digits } in
    let P : Bool → Type 0 = λ x. make e.capital e.sign e.digits ≡ make x e.sign e.digits in
    let Q : Sign → Type 0 = λ x. make e.capital e.sign e.digits ≡ make f.capital x e.digits in
    let R : List ℕ → Type 0 = λ x. make e.capital e.sign e.digits ≡ make f.capital f.sign x in
    subst R c (subst Q b (subst P a refl))

pub exponent_unique : (e f : Option Exponent) (x y : List ℕ) → exponent_text e ++ x ≡ exponent_text f ++ y → IfSome e (λ e. IsNumeral 10 e.digits) → IfSome f (λ f. IsNumeral 10 f.digits) → EndsExponent e x → EndsExponent f y → (e ≡ f) × (x ≡ y)
exponent_unique None None x y e a b h g = (refl, e)
exponent_unique None (Some q) x y e a b h g = absurd (let t = begins_exponent_text q y b in let f = ap begins_exponent e in cc)
exponent_unique (Some p) None x y e a b h g = absurd (let t = begins_exponent_text p x a in let f = ap begins_exponent e in cc)
exponent_unique (Some p) (Some q) x y e a b h g =
    let left : exponent_text (Some p) ++ x ≡ letter_text p.capital ++ (sign_text p.sign ++ (p.digits ++ x)) = simp append_assoc in
    let right : exponent_text (Some q) ++ y ≡ letter_text q.capital ++ (sign_text q.sign ++ (q.digits ++ y)) = simp append_assoc in
    let letters = letter_unique p.capital q.capital (sign_text p.sign ++ (p.digits ++ x)) (sign_text q.sign ++ (q.digits ++ y)) (sym left ∙ (e ∙ right)) in
    let signs = sign_unique p.sign q.sign (p.digits ++ x) (q.digits ++ y) letters.1 (λ _. numeral_no_sign p.digits x a) (λ _. numeral_no_sign q.digits y b) in
    let digits = digits_unique p.digits q.digits x y signs.1 a.1 b.1 h g in
    (ap Some (exponent_same p q letters.0 signs.0 digits.0), digits.1)

-- ---- whole spellings
-- an exponent begins with no digit and no point.
letter_no_digit : (capital : Bool) (x : List ℕ) → begins_digit (letter_text capital ++ x) ≡ false
letter_no_digit false x = refl
letter_no_digit true x = refl

letter_no_point : (capital : Bool) (x : List ℕ) → begins_point (letter_text capital ++ x) ≡ false
letter_no_point false x = refl
letter_no_point true x = refl

exponent_no_digit : (e : Option Exponent) (x : List ℕ) → begins_digit x ≡ false → begins_digit (exponent_text e ++ x) ≡ false
exponent_no_digit None x h = h
exponent_no_digit (Some e) x h = ap begins_digit (append_assoc (letter_text e.capital) (sign_text e.sign ++ e.digits) x) ∙ letter_no_digit e.capital ((sign_text e.sign ++ e.digits) ++ x)

exponent_no_point : (e : Option Exponent) (x : List ℕ) → (e ≡ None → begins_point x ≡ false) → begins_point (exponent_text e ++ x) ≡ false
exponent_no_point None x h = h refl
exponent_no_point (Some e) x h = ap begins_point (append_assoc (letter_text e.capital) (sign_text e.sign ++ e.digits) x) ∙ letter_no_point e.capital ((sign_text e.sign ++ e.digits) ++ x)

fraction_no_digit : (f : Option (List ℕ)) (x : List ℕ) → begins_digit x ≡ false → begins_digit (fraction_text f ++ x) ≡ false
fraction_no_digit None x h = h
fraction_no_digit (Some ds) x h = refl

ends_fraction : (f : Option (List ℕ)) (x : List ℕ) → begins_digit x ≡ false → (f ≡ None → begins_point x ≡ false) → EndsFraction f x
ends_fraction None x h g = (h, g refl)
ends_fraction (Some ds) x h g = h

ends_exponent : (e : Option Exponent) (x : List ℕ) → begins_digit x ≡ false → (e ≡ None → begins_exponent x ≡ false) → EndsExponent e x
ends_exponent None x h g = g refl
ends_exponent (Some e) x h g = h

-- Digits with or without a point begin with no sign.
pub mantissa_no_sign : (whole : List ℕ) (f : Option (List ℕ)) (x : List ℕ) → AllDigits 10 whole → 0 < length whole + length (fraction_digits f) → begins_sign (whole ++ (fraction_text f ++ x)) ≡ false
mantissa_no_sign (c ∷ cs) f x a some = digit_no_sign c (cs ++ (fraction_text f ++ x)) a.0
mantissa_no_sign [] (Some ds) x a some = refl
mantissa_no_sign [] None x a some = absurd (omega arith)

-- The text of a spelling and what stands after it, part by part.
pub parts_of : (s : Spelling) (x : List ℕ) → spelling_text s ++ x ≡ sign_text s.sign ++ (s.whole ++ (fraction_text s.fraction ++ (exponent_text s.exponent ++ x)))
parts_of s x = simp append_assoc

spelling_same : (s t : Spelling) → s.sign ≡ t.sign → s.whole ≡ t.whole → s.fraction ≡ t.fraction → s.exponent ≡ t.exponent → s ≡ t
spelling_same s t a b c d =
    let make : Sign → List ℕ → Option (List ℕ) → Option Exponent → Spelling = λ sign whole fraction exponent. record { sign = sign; whole = whole; fraction = fraction; exponent = exponent } in
    let P : Sign → Type 0 = λ x. make s.sign s.whole s.fraction s.exponent ≡ make x s.whole s.fraction s.exponent in
    let Q : List ℕ → Type 0 = λ x. make s.sign s.whole s.fraction s.exponent ≡ make t.sign x s.fraction s.exponent in
    let R : Option (List ℕ) → Type 0 = λ x. make s.sign s.whole s.fraction s.exponent ≡ make t.sign t.whole x s.exponent in
    let S : Option Exponent → Type 0 = λ x. make s.sign s.whole s.fraction s.exponent ≡ make t.sign t.whole t.fraction x in
    subst S d (subst R c (subst Q b (subst P a refl)))

pub spelling_unique : (s t : Spelling) (x y : List ℕ) → IsSpelling s → IsSpelling t → EndsNumber s x → EndsNumber t y → spelling_text s ++ x ≡ spelling_text t ++ y → (s ≡ t) × (x ≡ y)
spelling_unique s t x y a b h g e =
    let sx = exponent_text s.exponent ++ x in
    let ty = exponent_text t.exponent ++ y in
    let signs = sign_unique s.sign t.sign (s.whole ++ (fraction_text s.fraction ++ sx)) (t.whole ++ (fraction_text t.fraction ++ ty)) (sym (parts_of s x) ∙ (e ∙ parts_of t y))
    (λ _. mantissa_no_sign s.whole s.fraction sx a.whole a.some) (λ _. mantissa_no_sign t.whole t.fraction ty b.whole b.some) in
    let sx_digit = exponent_no_digit s.exponent x h.digit in
    let ty_digit = exponent_no_digit t.exponent y g.digit in
    let wholes = digits_unique s.whole t.whole (fraction_text s.fraction ++ sx) (fraction_text t.fraction ++ ty) signs.1 a.whole b.whole (fraction_no_digit s.fraction sx sx_digit) (fraction_no_digit t.fraction ty ty_digit) in
    let fractions = fraction_unique s.fraction t.fraction sx ty wholes.1 a.fraction b.fraction
    (ends_fraction s.fraction sx sx_digit (λ none. exponent_no_point s.exponent x (λ no_exponent. h.point none no_exponent)))
    (ends_fraction t.fraction ty ty_digit (λ none. exponent_no_point t.exponent y (λ no_exponent. g.point none no_exponent))) in
    let exponents = exponent_unique s.exponent t.exponent x y fractions.1 a.exponent b.exponent (ends_exponent s.exponent x h.digit h.exponent) (ends_exponent t.exponent y g.digit g.exponent) in
    (spelling_same s t signs.0 wholes.0 fractions.0 exponents.0, exponents.1)

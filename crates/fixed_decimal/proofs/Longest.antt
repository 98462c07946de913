-- The number in front of the letters is the longest one at the front of the text.
use Rattle.std.proofs.Common.{◌≡◌, ℕ, ◌+◌, ◌-◌, ◌<◌, ◌≤◌, List, [], ◌∷◌, ◌++◌, length, get_or, All, Option, Some, None, IfSome, arith, ap, sym, ◌∙◌, refl, subst, inl, inr, append_assoc}
use Rattle.std.specs.Char.{digit_value, IsAsciiAlphabetic, IsAsciiDigit}
use Rattle.std.specs.Str.Parse.{AllDigits, IsNumeral}
use Rattle.std.proofs.lemmas.Bool.{cases_lt}
use Rattle.std.proofs.lemmas.List.{append-nil, length-append, get_or_at, get_or-append_right}
use Rattle.std.proofs.lemmas.Str.Parse.{digit_from_value}
use Rattle.fixed_decimal.specs.Number.{sign_text, Exponent, exponent_text, letter_text, fraction_text, fraction_digits, Spelling, IsSpelling, spelling_text}

-- The text ends with a byte that is no letter.
record EndsWell (text : List ℕ) : Type 0 where
  front : List ℕ
  last : ℕ
  is : text ≡ front ++ last ∷ []
  no_letter : IsAsciiAlphabetic last → ⊥

digit_is_no_letter : (c : ℕ) → digit_value c < 10 → IsAsciiAlphabetic c → ⊥
digit_is_no_letter c h (inl r) = let d : IsAsciiDigit c = digit_from_value c h in let high = d.1 in let low = r.0 in omega arith
digit_is_no_letter c h (inr r) = let d : IsAsciiDigit c = digit_from_value c h in let high = d.1 in let low = r.0 in omega arith

point_is_no_letter : IsAsciiAlphabetic 46 → ⊥
point_is_no_letter (inl r) = let low = r.0 in omega arith
point_is_no_letter (inr r) = let low = r.0 in omega arith

after : (x y : List ℕ) → EndsWell y → EndsWell (x ++ y)
after x y e = record {
  front = x ++ e.front;
  last = e.last;
  is = ap (λ z. x ++ z) e.is ∙ sym (append_assoc x e.front (e.last ∷ []));
  no_letter = e.no_letter;
}

before_nothing : (x : List ℕ) → EndsWell x → EndsWell (x ++ [])
before_nothing x e = subst EndsWell (sym (append-nil x)) e

digits_end : (ds : List ℕ) → 0 < length ds → AllDigits 10 ds → EndsWell ds
digits_end [] some h = absurd (omega arith)
digits_end (c ∷ []) some h = record { front = []; last = c; is = refl; no_letter = digit_is_no_letter c h.0 }
digits_end (c ∷ d ∷ ds) some h = after (c ∷ []) (d ∷ ds) (digits_end (d ∷ ds) (omega arith) h.1)

exponent_ends : (e : Exponent) → IsNumeral 10 e.digits → EndsWell (exponent_text (Some e))
exponent_ends e h = after (letter_text e.capital) (sign_text e.sign ++ e.digits) (after (sign_text e.sign) e.digits (digits_end e.digits h.0 h.1))

fraction_ends : (whole : List ℕ) (f : Option (List ℕ)) → AllDigits 10 whole → AllDigits 10 (fraction_digits f) → 0 < length whole + length (fraction_digits f) → EndsWell (whole ++ fraction_text f)
fraction_ends whole None a b some = before_nothing whole (digits_end whole (omega arith) a)
fraction_ends whole (Some []) a b some = after whole (46 ∷ []) (record { front = []; last = 46; is = refl; no_letter = point_is_no_letter })
fraction_ends whole (Some (d ∷ ds)) a b some = after whole (46 ∷ d ∷ ds) (after (46 ∷ []) (d ∷ ds) (digits_end (d ∷ ds) (omega arith) b))

rest_ends : (whole : List ℕ) (f : Option (List ℕ)) (e : Option Exponent) → AllDigits 10 whole → AllDigits 10 (fraction_digits f) → 0 < length whole + length (fraction_digits f) → IfSome e (λ e. IsNumeral 10 e.digits) → EndsWell (whole ++ (fraction_text f ++ exponent_text e))
rest_ends whole f None a b some h =
    let P : List ℕ → Type 0 = λ x. EndsWell (whole ++ x) in
    subst P (sym (append-nil (fraction_text f))) (fraction_ends whole f a b some)
rest_ends whole f (Some e) a b some h = after whole (fraction_text f ++ exponent_text (Some e)) (after (fraction_text f) (exponent_text (Some e)) (exponent_ends e h))

spelling_ends : (s : Spelling) → IsSpelling s → EndsWell (spelling_text s)
spelling_ends s h = after (sign_text s.sign) (s.whole ++ (fraction_text s.fraction ++ exponent_text s.exponent)) (rest_ends s.whole s.fraction s.exponent h.whole h.fraction h.some h.exponent)

-- A number at the front of a text is no longer than one with letters only after it.
pub longest : (s t : Spelling) (letters rest : List ℕ) → All IsAsciiAlphabetic letters → IsSpelling t → spelling_text s ++ letters ≡ spelling_text t ++ rest → length (spelling_text t) ≤ length (spelling_text s)
longest s t letters rest only form same = elim (cases_lt (length (spelling_text s)) (length (spelling_text t))) [
  | inr most ↦ most
  | inl longer ↦
      let e = spelling_ends t form in
      let k = length e.front in
      let whole : spelling_text s ++ letters ≡ e.front ++ (e.last ∷ rest) = same ∙ (ap (λ x. x ++ rest) e.is ∙ append_assoc e.front (e.last ∷ []) rest) in
      let long : length (spelling_text t) ≡ k + 1 = ap length e.is ∙ (length-append e.front (e.last ∷ [])) in
      let sum : length (spelling_text s) + length letters ≡ length (spelling_text t) + length rest = sym (length-append (spelling_text s) letters) ∙ (ap length same ∙ length-append (spelling_text t) rest) in
      let right : get_or (e.front ++ (e.last ∷ rest)) k 0 ≡ e.last = get_or_at e.front e.last rest 0 k refl in
      let left : get_or (spelling_text s ++ letters) k 0 ≡ get_or letters (k - length (spelling_text s)) 0 = get_or-append_right (spelling_text s) letters (length (spelling_text s)) k 0 refl (omega arith) in
      let letter : IsAsciiAlphabetic (get_or letters (k - length (spelling_text s)) 0) = only (k - length (spelling_text s)) 0 (omega arith) in
      absurd (e.no_letter (subst IsAsciiAlphabetic (sym left ∙ (ap (λ x. get_or x k 0) whole ∙ right)) letter))
]

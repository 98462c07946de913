-- How often a byte stands in a text, and in its fronts.
use Rattle.std.proofs.Common.{◌≡◌, ⊎_elim, refl, sym, ap, ◌∙◌, subst, ℕ, suc, ◌+◌, ◌-◌, ◌<◌, ◌≤◌, Bool, true, false, ◌==◌, cond, List, [], ◌∷◌, ◌++◌, length, take, get_or, length-take, take-take, take_all, arith}
use Rattle.std.specs.List.{count_by}
use Rattle.std.proofs.lemmas.List.{take_more}
use Rattle.std.proofs.lemmas.Bool.{cond-true, cond-false, eq-eqb, ne_eqb, cases_lt}
use Rattle.std.proofs.lemmas.List.Sums.{sum_by-cons}
use Rattle.text_lex.specs.Bytes.{count_of}
use Rattle.text_lex.specs.Piece.{ClosesNone}

pub count_of-append : (byte : ℕ) (xs ys : List ℕ) → count_of byte (xs ++ ys) ≡ count_of byte xs + count_of byte ys
count_of-append byte [] ys = omega arith
count_of-append byte (x ∷ xs) ys = omega (arith, count_of-append byte xs ys)

-- One byte more.
pub count_of-more : (byte : ℕ) (text : List ℕ) (i : ℕ) → i < length text → count_of byte (take (i + 1) text) ≡ count_of byte (take i text) + cond (get_or text i 0 == byte) 1 0
count_of-more byte text i h =
    ap (count_of byte) (take_more text i 0 h) ∙ count_of-append byte (take i text) (get_or text i 0 ∷ []) ∙ omega arith

pub count_of-yes : (byte : ℕ) (text : List ℕ) (i : ℕ) → i < length text → get_or text i 0 ≡ byte → count_of byte (take (i + 1) text) ≡ count_of byte (take i text) + 1
count_of-yes byte text i h e = count_of-more byte text i h ∙ ap (λ n. count_of byte (take i text) + n) (cond-true {A = ℕ} (get_or text i 0 == byte) 1 0 (eq-eqb _ byte e))

pub count_of-no : (byte : ℕ) (text : List ℕ) (i : ℕ) → i < length text → (get_or text i 0 ≡ byte → ⊥) → count_of byte (take (i + 1) text) ≡ count_of byte (take i text)
count_of-no byte text i h e =
    let none : ◌≡◌ {A = ℕ} (cond (get_or text i 0 == byte) 1 0) 0 = cond-false (get_or text i 0 == byte) 1 0 (ne_eqb _ byte e) in
    omega (arith, count_of-more byte text i h, none)

-- As std counts.
pub count_by-count_of : (byte : ℕ) (text : List ℕ) → count_by (λ b. b == byte) text ≡ count_of byte text
count_by-count_of byte [] = refl
count_by-count_of byte (x ∷ xs) =
    sum_by-cons (λ b. cond (b == byte) 1 0) x xs ∙ ap (λ n. cond (x == byte) 1 0 + n) (count_by-count_of byte xs)

pub count_of-le-length : (byte : ℕ) (text : List ℕ) → count_of byte text ≤ length text
count_of-le-length byte [] = omega arith
count_of-le-length byte (x ∷ xs) = at (x == byte) (count_of-le-length byte xs)
  where
    at : (t : Bool) → count_of byte xs ≤ length xs → cond t 1 0 + count_of byte xs ≤ suc (length xs)
    at true h = omega arith
    at false h = omega arith

-- In no front with up to `len` bytes are more braces closed than opened.
abbrev pub ClosesNoneUpTo : List ℕ → ℕ → Type 0
ClosesNoneUpTo text len = (n : ℕ) → n ≤ len → count_of 125 (take n text) ≤ count_of 123 (take n text)

pub closes_none_up_to : (text : List ℕ) (len : ℕ) → ClosesNoneUpTo text len → ClosesNone (take len text)
closes_none_up_to text len h n =
    let P : List ℕ → Type 0 = λ x. count_of 125 x ≤ count_of 123 x in
    ⊎_elim
    (λ below. let within : n ≤ len = omega arith in subst P (sym (take-take n len text within)) (h n within))
    (λ above. let short : length (take len text) ≤ n = omega (arith, length-take len text) in subst P (sym (take_all n (take len text) short)) (h len (omega arith)))
    (cases_lt n len)

pub closes_none_all : (text : List ℕ) → ClosesNoneUpTo text (length text) → ClosesNone text
closes_none_all text h = subst ClosesNone (take_all (length text) text (omega arith)) (closes_none_up_to text (length text) h)

closes_none_more : (text : List ℕ) (i : ℕ) → ClosesNoneUpTo text i → count_of 125 (take (i + 1) text) ≤ count_of 123 (take (i + 1) text) → ClosesNoneUpTo text (i + 1)
closes_none_more text i h last n within =
    let P : ℕ → Type 0 = λ m. count_of 125 (take m text) ≤ count_of 123 (take m text) in
    ⊎_elim (λ below. h n (omega arith)) (λ above. let e : i + 1 ≡ n = omega arith in subst P e last) (cases_lt n (i + 1))

-- How many braces are open after the first bytes.
pub record HasOpen (text : List ℕ) (i open_braces : ℕ) : Type 0 where
  pub few : open_braces ≤ i
  pub open_now : open_braces + count_of 125 (take i text) ≡ count_of 123 (take i text)
  pub none : ClosesNoneUpTo text i

pub opens_more : (text : List ℕ) (i d : ℕ) → i < length text → HasOpen text i d → get_or text i 0 ≡ 123 → HasOpen text (i + 1) (d + 1)
opens_more text i d h before e =
    let is = count_of-yes 123 text i h e in
    let other = count_of-no 125 text i h (λ f. absurd (omega (arith, e, f))) in
    let now : (d + 1) + count_of 125 (take (i + 1) text) ≡ count_of 123 (take (i + 1) text) = omega (arith, is, other, before.open_now) in record {
      few = omega (arith, before.few);
      open_now = now;
      none = closes_none_more text i before.none (omega (arith, now));
    }

pub closes_more : (text : List ℕ) (i d : ℕ) → i < length text → HasOpen text i d → get_or text i 0 ≡ 125 → 0 < d → HasOpen text (i + 1) (d - 1)
closes_more text i d h before e some =
    let is = count_of-yes 125 text i h e in
    let other = count_of-no 123 text i h (λ f. absurd (omega (arith, e, f))) in
    let now : (d - 1) + count_of 125 (take (i + 1) text) ≡ count_of 123 (take (i + 1) text) = omega (arith, is, other, before.open_now) in record {
      few = omega (arith, before.few);
      open_now = now;
      none = closes_none_more text i before.none (omega (arith, now));
    }

pub keeps_open : (text : List ℕ) (i d : ℕ) → i < length text → HasOpen text i d → (get_or text i 0 ≡ 123 → ⊥) → (get_or text i 0 ≡ 125 → ⊥) → HasOpen text (i + 1) d
keeps_open text i d h before e f =
    let first = count_of-no 123 text i h e in
    let other = count_of-no 125 text i h f in
    let now : d + count_of 125 (take (i + 1) text) ≡ count_of 123 (take (i + 1) text) = omega (arith, first, other, before.open_now) in record {
      few = omega (arith, before.few);
      open_now = now;
      none = closes_none_more text i before.none (omega (arith, now));
    }

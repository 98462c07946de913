-- The name of a via tells its rule, its columns and its rows.
use Rattle.std.proofs.Common.{◌≡◌, ℕ, ◌+◌, ◌^◌, ◌<◌, List, [], ◌∷◌, ◌++◌, drop, refl, sym, ◌∙◌, ap, append_assoc, arith}
use Rattle.std.specs.Prelude.{decimal}
use Rattle.std.specs.Str.Parse.{AllDigits, digits_value}
use Rattle.std.proofs.lemmas.Fmt.{decimal_is_IsNumeral_wide}
use Rattle.std.proofs.lemmas.Str.Parse.{digit_from_value}
use Rattle.def_writer.specs.declared.via.Via.{Via}
use Rattle.def_writer.specs.Via.{via_name}

-- The numbers of a via have few digits.
pub record IsFew (via : Via) : Type 0 where
  pub rule : via.rule + 1 < 10 ^ 64
  pub columns : via.columns < 10 ^ 64
  pub rows : via.rows < 10 ^ 64

not_mark : (c : ℕ) (cs : List ℕ) → AllDigits 10 (c ∷ cs) → c ≡ 95 → ⊥
not_mark c cs h e =
    let range = digit_from_value c h.0 in
    let high = range.1 in
    omega (arith, high, e)

same_head : (a b : ℕ) (xs ys : List ℕ) → a ∷ xs ≡ b ∷ ys → a ≡ b
same_head a b xs ys e = cc

same_tail : (a b : ℕ) (xs ys : List ℕ) → a ∷ xs ≡ b ∷ ys → xs ≡ ys
same_tail a b xs ys e = cc

-- Digits before a mark, and what stands after it.
split_mark : (xs ys us vs : List ℕ) → AllDigits 10 xs → AllDigits 10 ys → xs ++ 95 ∷ us ≡ ys ++ 95 ∷ vs → (xs ≡ ys) × (us ≡ vs)
split_mark [] [] us vs h k e = (refl, same_tail 95 95 us vs e)
split_mark [] (y ∷ ys) us vs h k e = absurd (not_mark y ys k (sym (same_head 95 y us (ys ++ 95 ∷ vs) e)))
split_mark (x ∷ xs) [] us vs h k e = absurd (not_mark x xs h (same_head x 95 (xs ++ 95 ∷ us) vs e))
split_mark (x ∷ xs) (y ∷ ys) us vs h k e =
    let more = split_mark xs ys us vs h.1 k.1 (same_tail x y (xs ++ 95 ∷ us) (ys ++ 95 ∷ vs) e) in
    (ap (λ z. z ∷ xs) (same_head x y (xs ++ 95 ∷ us) (ys ++ 95 ∷ vs) e) ∙ ap (λ z. y ∷ z) more.0, more.1)

same_decimal : (m n : ℕ) → m < 10 ^ 64 → n < 10 ^ 64 → decimal m ≡ decimal n → m ≡ n
same_decimal m n few_m few_n e = sym (decimal_is_IsNumeral_wide m few_m).1 ∙ ap (digits_value 10) e ∙ (decimal_is_IsNumeral_wide n few_n).1

abbrev numbers_of : Via → List ℕ
numbers_of via = decimal (via.rule + 1) ++ (95 ∷ (decimal via.columns ++ (95 ∷ decimal via.rows)))

numbers_are : (via : Via) → drop 4 (via_name via) ≡ numbers_of via
numbers_are via =
    let a : List ℕ = decimal (via.rule + 1) in
    let b : List ℕ = decimal via.columns in
    let c : List ℕ = decimal via.rows in
    append_assoc ((a ++ 95 ∷ []) ++ b) (95 ∷ []) c ∙ append_assoc (a ++ 95 ∷ []) b (95 ∷ c) ∙ append_assoc a (95 ∷ []) (b ++ 95 ∷ c)

pub same_via : (v w : Via) → IsFew v → IsFew w → via_name v ≡ via_name w → v ≡ w
same_via v w few_v few_w e =
    let numbers : numbers_of v ≡ numbers_of w = sym (numbers_are v) ∙ ap (drop 4) e ∙ numbers_are w in
    let digits = λ (n : ℕ) (few : n < 10 ^ 64). (decimal_is_IsNumeral_wide n few).0.1 in
    let one = split_mark (decimal (v.rule + 1)) (decimal (w.rule + 1)) (decimal v.columns ++ 95 ∷ decimal v.rows) (decimal w.columns ++ 95 ∷ decimal w.rows)
    (digits (v.rule + 1) few_v.rule) (digits (w.rule + 1) few_w.rule) numbers in
    let two = split_mark (decimal v.columns) (decimal w.columns) (decimal v.rows) (decimal w.rows) (digits v.columns few_v.columns) (digits w.columns few_w.columns) one.1 in
    let next : v.rule + 1 ≡ w.rule + 1 = same_decimal (v.rule + 1) (w.rule + 1) few_v.rule few_w.rule one.0 in
    let rule : v.rule ≡ w.rule = omega (arith, next) in
    let columns : v.columns ≡ w.columns = same_decimal v.columns w.columns few_v.columns few_w.columns two.0 in
    let rows : v.rows ≡ w.rows = same_decimal v.rows w.rows few_v.rows few_w.rows two.1 in
    λ i. record { rule = rule i; columns = columns i; rows = rows i }

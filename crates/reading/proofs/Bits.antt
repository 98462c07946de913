-- Sets of numbers as the bits of one number.
use Rattle.std.proofs.Common.{◌≡◌, ℕ, ◌-◌, ◌*◌, ◌%◌, ◌^◌, ◌<◌, ◌≤◌, Bool, true, false, not, nat_eq, ◌||◌, List, [], ◌∷◌, ◌++◌, length, slice_get, Some, bit_or, w64, refl, sym, ◌∙◌, ap, arith, inl, inr}
use Rattle.std.proofs.lemmas.Bool.{cases_eq, ne_eqb, eq-eqb}
use Rattle.std.proofs.lemmas.Nat.Bits.{bit_at_set_same, bit_at_set_other, bit_at_not, bit_at-lt, bit_at-zero}
use Rattle.std.proofs.lemmas.Option.{slice_get_within}
use Rattle.std.specs.Int.{bit_at, bit_not}
use Rattle.reading.specs.inside.Patterns.{among, IsWith, IsWithout, IsSet}
use Rattle.reading.specs.Rule.{listed_in}

pub with_one : (set k : ℕ) → k < 64 → IsWith set k (bit_or set (1 * 2 ^ k % 2 ^ 64))
with_one set k h = λ n. elim (cases_eq k n) [
  | inl e ↦
      ap (λ z. nat_eq (bit_at (bit_or set (1 * 2 ^ k % 2 ^ 64)) z) 1) (sym e) ∙ ap (λ z. nat_eq z 1) (bit_at_set_same w64 set k h)
      ∙ ap (λ z. z || among n set) (sym (eq-eqb k n e))
  | inr e ↦
      ap (λ z. nat_eq z 1) (bit_at_set_other w64 set k h n (λ z. e (sym z))) ∙ ap (λ z. z || among n set) (sym (ne_eqb k n e))
]

flip : (b : ℕ) → b < 2 → nat_eq (1 - b) 1 ≡ not (nat_eq b 1)
flip b h = elim (cases_eq b 1) [
  | inl e ↦ ap (λ z. nat_eq (1 - z) 1) e ∙ ap (λ z. not (nat_eq z 1)) (sym e)
  | inr e ↦ let z : b ≡ 0 = omega arith in ap (λ z. nat_eq (1 - z) 1) z ∙ ap (λ z. not (nat_eq z 1)) (sym z)
]

pub with_none : (set : ℕ) → set < 2 ^ 64 → IsWithout set (bit_not w64 set)
with_none set h = λ n lt. ap (λ z. nat_eq z 1) (bit_at_not w64 set n h lt) ∙ flip (bit_at set n) (bit_at-lt set n)

pub none_yet : {S : Type 0} (number : S → ℕ) → IsSet number 0 (λ s. false)
none_yet number = λ s. ap (λ z. nat_eq z 1) (bit_at-zero (number s))

or-end : (a b : Bool) → (a || b) ≡ (b || a)
or-end true true = refl
or-end true false = refl
or-end false true = refl
or-end false false = refl

or-turn : (a b c : Bool) → (a || (b || c)) ≡ (b || (a || c))
or-turn true true c = refl
or-turn true false c = refl
or-turn false true c = refl
or-turn false false c = refl

pub listed-more : {S : Type 0} (number : S → ℕ) (xs : List S) (x s : S) → listed_in number (xs ++ x ∷ []) s ≡ (nat_eq (number x) (number s) || listed_in number xs s)
listed-more number [] x s = refl
listed-more number (y ∷ xs) x s =
    ap (λ z. nat_eq (number y) (number s) || z) (listed-more number xs x s) ∙ or-turn (nat_eq (number y) (number s)) (nat_eq (number x) (number s)) (listed_in number xs s)

pub set-more : {S : Type 0} (number : S → ℕ) (xs : List S) (x : S) (old new : ℕ) → IsSet number old (listed_in number xs) → IsWith old (number x) new →
    IsSet number new (listed_in number (xs ++ x ∷ []))
set-more number xs x old new h w = λ s. w (number s) ∙ ap (λ z. nat_eq (number x) (number s) || z) (h s) ∙ sym (listed-more number xs x s)

-- The number of a value of a type with at most 64.
pub number-below : {S : Type 0} (number : S → ℕ) (all : List S) (s : S) → slice_get all (number s) ≡ Some s → length all ≤ 64 → number s < 64
number-below number all s h few = let w : number s < length all = slice_get_within all (number s) s h in omega arith

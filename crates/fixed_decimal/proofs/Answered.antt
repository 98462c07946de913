-- What the answer to a text says of the one value that it has or lacks.
use Rattle.std.proofs.Common.{◌≡◌, ℕ, List, ℤ, Result, Ok, Err, ◌↔◌, subst}
use Rattle.fixed_decimal.specs.declared.error.DecimalError.{DecimalError}
use Rattle.fixed_decimal.specs.declared.error.DecimalError.TheVariants.{NotNumber, Vanishes as ItVanishes, Range}
use Rattle.fixed_decimal.specs.Number.{Number}
use Rattle.fixed_decimal.specs.Value.{IsAnswer, IsWithin, IsAbove, Vanishes, StandsFor}
use Rattle.fixed_decimal.proofs.TextLaws.{answer_once}

module _ (form : List ℕ → Number → Type 0) (places limit : ℕ) (text : List ℕ) (unique : (m n : Number) → form text m → form text n → m ≡ n) (r : Result ℤ DecimalError) (a : IsAnswer form places limit text r) where
  once : (s : Result ℤ DecimalError) → IsAnswer form places limit text s → r ≡ s
  once s b = answer_once form places limit text unique r s a b

  there : (s : Result ℤ DecimalError) → r ≡ s → IsAnswer form places limit text s
  there s e = subst (λ x. IsAnswer form places limit text x) e a

  pub answers_value : (v : ℤ) → (r ≡ Ok v) ↔ StandsFor form text (λ number. IsWithin number places limit v)
  answers_value v = (λ e. there (Ok v) e, λ s. once (Ok v) s)

  pub answers_not_number : (r ≡ Err NotNumber) ↔ ((number : Number) → form text number → ⊥)
  answers_not_number = (λ e. there (Err NotNumber) e, λ n. once (Err NotNumber) n)

  pub answers_vanishes : (r ≡ Err ItVanishes) ↔ StandsFor form text (λ number. Vanishes number places)
  answers_vanishes = (λ e. there (Err ItVanishes) e, λ s. once (Err ItVanishes) s)

  pub answers_range : (r ≡ Err Range) ↔ StandsFor form text (λ number. IsAbove number places limit)
  answers_range = (λ e. there (Err Range) e, λ s. once (Err Range) s)

  pub answers_only : (other : Result ℤ DecimalError) → IsAnswer form places limit text other → other ≡ r
  answers_only other b = answer_once form places limit text unique other r b a

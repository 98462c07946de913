-- Lists of the same things in one order are one list.
use Rattle.std.proofs.Common.{◌≡◌, ℕ, List, [], ◌∷◌, ◌++◌, sym, ◌∙◌, arith}
use Rattle.grid_taps.specs.Naming.{IsLeast}
use Rattle.grid_taps.specs.Pads.{InOrder}

-- ## lists that are made of lists

-- each source gives one list, and so do all of them
pub in_order_one : {S E : Type 0} (gives : S → List E → Type 0) → ((s : S) (a b : List E) → gives s a → gives s b → a ≡ b)
    → (sources : List S) (a b : List E) → InOrder gives sources a → InOrder gives sources b → a ≡ b
in_order_one gives one [] a b p q = p ∙ sym q
in_order_one gives one (s ∷ ss) a b (first, rest, given, more, is) (first', rest', given', more', is') =
    let e = one s first first' given given' in
    let f = in_order_one gives one ss rest rest' more more' in
    is ∙ (λ i. e i ++ f i) ∙ sym is'

-- ## numbers

-- a number with a property is the least one in one way
pub least_one : (P : ℕ → Type 0) (m n : ℕ) → IsLeast P m → IsLeast P n → m ≡ n
least_one P m n p q = let low = p.least n q.is in let high = q.least m p.is in omega (arith, low, high)

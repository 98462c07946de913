-- Sums over lists, and over the resistors of a network.
use Rattle.std.proofs.Common.{◌≡◌, ℕ, zero, suc, ◌<◌, ◌+◌, length, take, get_or, add-one, ℤ, pos, ◌+ℤ◌, ◌*ℤ◌, ◌≤ℤ◌, arith, refl, ap, ◌∙◌, List, [], ◌∷◌, Bool, true, false, cond, eqb, eqb-true, All}
use Rattle.std.proofs.lemmas.Int.{ints}
use Rattle.std.proofs.lemmas.List.Elements.{All-head, All-tail}
use Rattle.grid_net.specs.declared.part.Resistor.{Resistor}
use Rattle.grid_net.specs.Network.{total, taken_by}
use Rattle.rounding.specs.Laws.{times_sum}

-- A sum of greater terms is greater.
pub total_le : {X : Type 0} (P : X → Type 0) (f g : X → ℤ) → ((x : X) → P x → f x ≤ℤ g x) → (xs : List X) → All P xs
    → total f xs ≤ℤ total g xs
total_le P f g h [] a = omega (arith, ints)
total_le P f g h (x ∷ xs) a = omega (arith, ints, h x (All-head P x xs a), total_le P f g h xs (All-tail P x xs a))

part_le : (s : Bool) (u v : ℤ) → (s ≡ true → u ≤ℤ v) → cond s u (pos 0) ≤ℤ cond s v (pos 0)
part_le true u v h = h refl
part_le false u v h = omega (arith, ints)

-- What is taken from a node grows with what leaves the ends that stand there.
pub taken_le : (r : Resistor) (i : ℕ) (u v u' v' : ℤ) → (r.a ≡ i → u ≤ℤ u') → (r.b ≡ i → v ≤ℤ v')
    → taken_by r i u v ≤ℤ taken_by r i u' v'
taken_le r i u v u' v' h k =
    omega (
      arith,
      ints,
      part_le (eqb r.a i) u u' (λ e. h (eqb-true r.a i e)),
      part_le (eqb r.b i) v v'
          (λ e. k (eqb-true r.b i e)),
    )

part_times : (s : Bool) (q u : ℤ) → q *ℤ cond s u (pos 0) ≡ cond s (q *ℤ u) (pos 0)
part_times true q u = refl
part_times false q u = omega (arith, ints)

pub taken_times : (r : Resistor) (i : ℕ) (q u v : ℤ) → q *ℤ taken_by r i u v ≡ taken_by r i (q *ℤ u) (q *ℤ v)
taken_times r i q u v =
    times_sum q (cond (eqb r.a i) u (pos 0)) (cond (eqb r.b i) v (pos 0))
    ∙ ap (λ t. t +ℤ q *ℤ cond (eqb r.b i) v (pos 0)) (part_times (eqb r.a i) q u)
    ∙ ap (λ t. cond (eqb r.a i) (q *ℤ u) (pos 0) +ℤ t) (part_times (eqb r.b i) q v)

-- The sum up to the next element of a list.
total_next : {X : Type 0} (f : X → ℤ) (xs : List X) (i : ℕ) (d : X) → i < length xs
    → total f (take (suc i) xs) ≡ total f (take i xs) +ℤ f (get_or xs i d)
total_next f [] i d l = absurd (omega arith)
total_next f (x ∷ xs) zero d l = omega (arith, ints)
total_next f (x ∷ xs) (suc i) d l = let e = total_next f xs i d (omega arith) in omega (arith, ints, e)

-- The next element of a list adds its term: a loop's step.
pub total_more : {X : Type 0} (f : X → ℤ) (xs : List X) (i : ℕ) (d : X) → i < length xs
    → total f (take (i + 1) xs) ≡ total f (take i xs) +ℤ f (get_or xs i d)
total_more f xs i d l = rw add-one (total_next f xs i d l)

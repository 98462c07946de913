-- Texts that grow by parts, and by the line of one more number.
use Rattle.std.proofs.Common.{◌≡◌, ℕ, ◌+◌, List, [], ◌∷◌, ◌++◌, refl, ap, sym, ◌∙◌, zero-add, add-one, append_assoc}
use Rattle.std.specs.List.{flat_map, range_with_len}
use Rattle.std.proofs.lemmas.List.{flat_map_more, map-id}
use Rattle.std.proofs.lemmas.List.FromFn.{map-range_with_len_more}
use Rattle.grid_gen.specs.Design.{state_after, next_state}

-- A text that has grown by a and then by b has grown by both.
pub grown : (o p q a b : List ℕ) → p ≡ o ++ a → q ≡ p ++ b → q ≡ o ++ (a ++ b)
grown o p q a b first second = second ∙ ap (λ x. x ++ b) first ∙ append_assoc o a b

range_more : (n : ℕ) → range_with_len 0 (n + 1) ≡ range_with_len 0 n ++ n ∷ []
range_more n =
    sym (map-id (range_with_len 0 (n + 1))) ∙ map-range_with_len_more (λ (x : ℕ). x) 0 n n (zero-add n)
    ∙ ap (λ r. r ++ n ∷ []) (map-id (range_with_len 0 n))

-- A text with the lines of the numbers below n that has grown by that of n.
pub grown_by_line : (f : ℕ → List ℕ) (o p q : List ℕ) (n : ℕ) → p ≡ o ++ flat_map f (range_with_len 0 n) → q ≡ p ++ f n → q ≡ o ++ flat_map f (range_with_len 0 (n + 1))
grown_by_line f o p q n before line =
    line ∙ ap (λ x. x ++ f n) before ∙ flat_map_more f o (range_with_len 0 n) n ∙ ap (λ r. o ++ flat_map f r) (sym (range_more n))

-- The number is the state before the first step, and each step goes on from the last one.
pub state_first : (number : ℕ) → number ≡ state_after number 0
unfolding state_after
state_first number = refl

pub state_more : (number k : ℕ) → state_after number (k + 1) ≡ next_state (state_after number k)
unfolding state_after
state_more number k = rw add-one refl

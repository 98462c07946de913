-- A text that has what is written of the first elements of a numbered list, and then of one more.
use Rattle.std.proofs.Common.{◌≡◌, ℕ, ℤ, zero, suc, ◌+◌, ◌<◌, ◌≤◌, List, [], ◌∷◌, ◌++◌, length, take, get_or, refl, sym, ap, ◌∙◌, append_assoc, arith}
use Rattle.std.specs.List.{flat_map, enumerate_from, zip}
use Rattle.std.proofs.lemmas.List.{append-nil}

one_more : {X : Type 0} (write : ℕ × X → List ℕ) (n : ℕ) (xs : List X) (i : ℕ) (d : X) → i < length xs
    → flat_map write (enumerate_from n (take (suc i) xs)) ≡ flat_map write (enumerate_from n (take i xs)) ++ write (n + i, get_or xs i d)
one_more write n [] i d within = absurd (omega arith)
one_more write n (x ∷ xs) zero d within =
    let e : n ≡ n + 0 = omega arith in append-nil (write (n, x)) ∙ ap (λ k. write (k, x)) e
one_more write n (x ∷ xs) (suc i) d within =
    let e : n + 1 + i ≡ n + suc i = omega arith in
    ap (λ l. write (n, x) ++ l) (one_more write (n + 1) xs i d (omega arith))
    ∙ sym (append_assoc (write (n, x)) (flat_map write (enumerate_from (n + 1) (take i xs))) (write (n + 1 + i, get_or xs i d)))
    ∙ ap (λ k. (write (n, x) ++ flat_map write (enumerate_from (n + 1) (take i xs))) ++ write (k, get_or xs i d)) e

-- Of the first i + 1 elements there is written what is written of the first i, and then what is written of element i.
pub numbered_more : {X : Type 0} (write : ℕ × X → List ℕ) (xs : List X) (i : ℕ) (d : X) → i < length xs
    → flat_map write (enumerate_from 0 (take (i + 1) xs)) ≡ flat_map write (enumerate_from 0 (take i xs)) ++ write (i, get_or xs i d)
numbered_more write xs i d within =
    let e : i + 1 ≡ suc i = omega arith in
    let z : 0 + i ≡ i = omega arith in
    ap (λ k. flat_map write (enumerate_from 0 (take k xs))) e ∙ one_more write 0 xs i d within
    ∙ ap (λ k. flat_map write (enumerate_from 0 (take i xs)) ++ write (k, get_or xs i d)) z

-- A text that begins so and goes on with one more piece.
pub grown : (start out new written piece more : List ℕ) → out ≡ start ++ written → new ≡ out ++ piece
    → more ≡ written ++ piece → new ≡ start ++ more
grown start out new written piece more first second is =
    second ∙ ap (λ l. l ++ piece) first ∙ append_assoc start written piece ∙ ap (λ l. start ++ l) (sym is)

-- Two lists side by side, as long as each other: their length, and an element.
pub length-side : {X Y : Type 0} (xs : List X) (ys : List Y) → length ys ≡ length xs → length (zip xs ys) ≡ length xs
length-side [] [] e = refl
length-side [] (y ∷ ys) e = absurd (omega arith)
length-side (x ∷ xs) [] e = absurd (omega arith)
length-side (x ∷ xs) (y ∷ ys) e = let h = length-side xs ys (omega arith) in omega (arith, h)

pub element-side : {X Y : Type 0} (xs : List X) (ys : List Y) (i : ℕ) (d : X) (e : Y) → i < length xs
    → length ys ≡ length xs → get_or (zip xs ys) i (d, e) ≡ (get_or xs i d, get_or ys i e)
element-side [] ys i d e within same = absurd (omega arith)
element-side (x ∷ xs) [] i d e within same = absurd (omega arith)
element-side (x ∷ xs) (y ∷ ys) zero d e within same = refl
element-side (x ∷ xs) (y ∷ ys) (suc i) d e within same = element-side xs ys i d e (omega arith) (omega arith)

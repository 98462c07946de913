-- One more line of a written list, and one more entry of a list of pairs.
use Rattle.std.proofs.Common.{◌≡◌, ℕ, zero, suc, ◌+◌, ◌<◌, List, [], ◌∷◌, ◌++◌, length, take, get_or, map, refl, sym, ap, ◌∙◌, append_assoc, arith}
use Rattle.std.specs.List.{flat_map, enumerate_from, zip}
use Rattle.std.proofs.lemmas.List.{take_more, length-take-le, append-nil}
use Rattle.std.proofs.lemmas.List.Concat.{flat_map-append}

-- An element after a list that is numbered.
enumerate_push : {X : Type 0} (n : ℕ) (xs : List X) (x : X) → enumerate_from n (xs ++ x ∷ []) ≡ enumerate_from n xs ++ (n + length xs, x) ∷ []
enumerate_push n [] x = let e : n ≡ n + 0 = omega arith in ap (λ k. (k, x) ∷ []) e
enumerate_push n (y ∷ ys) x =
    let e : n + 1 + length ys ≡ n + length (y ∷ ys) = omega arith in
    ap (λ l. (n, y) ∷ l) (enumerate_push (n + 1) ys x ∙ ap (λ k. enumerate_from (n + 1) ys ++ (k, x) ∷ []) e)

-- A numbered list with one element more.
pub numbered_more : {X : Type 0} (n k : ℕ) (xs : List X) (i : ℕ) (d : X) → i < length xs → n + i ≡ k → enumerate_from n (take (i + 1) xs) ≡ enumerate_from n (take i xs) ++ (k, get_or xs i d) ∷ []
numbered_more n k xs i d within is =
    let count : n + length (take i xs) ≡ k = omega (arith, length-take-le i xs (omega arith)) in
    ap (enumerate_from n) (take_more xs i d within) ∙ enumerate_push n (take i xs) (get_or xs i d)
    ∙ ap (λ m. enumerate_from n (take i xs) ++ (m, get_or xs i d) ∷ []) count

-- The line of one more element.
pub line_more : {X : Type 0} (line : ℕ × X → List ℕ) (n k : ℕ) (xs : List X) (i : ℕ) (d : X) → i < length xs → n + i ≡ k
    → flat_map line (enumerate_from n (take (i + 1) xs)) ≡ flat_map line (enumerate_from n (take i xs)) ++ line (k, get_or xs i d)
line_more line n k xs i d within is =
    ap (flat_map line) (numbered_more n k xs i d within is) ∙ flat_map-append line (enumerate_from n (take i xs)) ((k, get_or xs i d) ∷ [])
    ∙ ap (λ l. flat_map line (enumerate_from n (take i xs)) ++ l) (append-nil (line (k, get_or xs i d)))

-- A text that has some lines, and one more.
pub grown_by_line : (start out new lines line more : List ℕ) → out ≡ start ++ lines → new ≡ out ++ line → more ≡ lines ++ line → new ≡ start ++ more
grown_by_line start out new lines line more first second e =
    second ∙ ap (λ l. l ++ line) first ∙ append_assoc start lines line ∙ ap (λ l. start ++ l) (sym e)

-- Two lists side by side, as long as each other.
pub length-zip : {X Y : Type 0} (xs : List X) (ys : List Y) → length xs ≡ length ys → length (zip xs ys) ≡ length xs
length-zip [] ys e = refl
length-zip (x ∷ xs) [] e = absurd (omega arith)
length-zip (x ∷ xs) (y ∷ ys) e = let h = length-zip xs ys (omega arith) in omega (arith, h)

pub get_or-zip : {X Y : Type 0} (xs : List X) (ys : List Y) (i : ℕ) (d : X) (e : Y) → i < length xs → length xs ≡ length ys → get_or (zip xs ys) i (d, e) ≡ (get_or xs i d, get_or ys i e)
get_or-zip [] ys i d e within same = absurd (omega arith)
get_or-zip (x ∷ xs) [] i d e within same = absurd (omega arith)
get_or-zip (x ∷ xs) (y ∷ ys) zero d e within same = refl
get_or-zip (x ∷ xs) (y ∷ ys) (suc i) d e within same = get_or-zip xs ys i d e (omega arith) (omega arith)

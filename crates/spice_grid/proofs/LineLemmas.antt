-- One more line of a written list.
use Rattle.std.proofs.Common.{◌≡◌, ◌≢◌, ℕ, ℤ, ◌+◌, ◌<◌, Bool, true, false, List, [], ◌∷◌, ◌++◌, length, take, get_or, filter, if◌then◌else◌, codes, inl, inr, refl, sym, ap, ◌∙◌, append_assoc, decimal, arith}
use Rattle.std.specs.List.{flat_map, enumerate_from}
use Rattle.std.proofs.lemmas.List.{take_more, length-take-le, append-nil}
use Rattle.std.proofs.lemmas.List.Concat.{flat_map-append}
use Rattle.std.specs.Ordering.{int_eq}
use Rattle.std.proofs.lemmas.Bool.{cases_Bool}
use Rattle.std.proofs.lemmas.Bool.Decides.{Decides-int_eq}
use Rattle.fixed_decimal.specs.Printed.{printed}
use Rattle.grid_net.specs.declared.part.LoadRange.{LoadRange}
use Rattle.spice_grid.specs.Written.{numbered_card, line_of, range_line}
use Rattle.spice_grid.specs.inside.Written.{card_head}

-- An element after a list that is numbered.
pub enumerate_push : {X : Type 0} (n : ℕ) (xs : List X) (x : X) → enumerate_from n (xs ++ x ∷ []) ≡ enumerate_from n xs ++ (n + length xs, x) ∷ []
enumerate_push n [] x = let e : n ≡ n + 0 = omega arith in ap (λ k. (k, x) ∷ []) e
enumerate_push n (y ∷ ys) x =
    let e : n + 1 + length ys ≡ n + length (y ∷ ys) = omega arith in
    ap (λ l. (n, y) ∷ l) (enumerate_push (n + 1) ys x ∙ ap (λ k. enumerate_from (n + 1) ys ++ (k, x) ∷ []) e)

-- The line of one more element.
pub line_pushed : {X : Type 0} (line : ℕ × X → List ℕ) (xs : List X) (x : X) → flat_map line (enumerate_from 1 (xs ++ x ∷ [])) ≡ flat_map line (enumerate_from 1 xs) ++ line (1 + length xs, x)
line_pushed line xs x =
    ap (flat_map line) (enumerate_push 1 xs x) ∙ flat_map-append line (enumerate_from 1 xs) ((1 + length xs, x) ∷ [])
    ∙ ap (λ l. flat_map line (enumerate_from 1 xs) ++ l) (append-nil (line (1 + length xs, x)))

pub line_more : {X : Type 0} (line : ℕ × X → List ℕ) (xs : List X) (i : ℕ) (d : X) → i < length xs
    → flat_map line (enumerate_from 1 (take (i + 1) xs)) ≡ flat_map line (enumerate_from 1 (take i xs)) ++ line (i + 1, get_or xs i d)
line_more line xs i d within =
    let count : 1 + length (take i xs) ≡ i + 1 = omega (arith, length-take-le i xs (omega arith)) in
    ap (λ l. flat_map line (enumerate_from 1 l)) (take_more xs i d within) ∙ line_pushed line (take i xs) (get_or xs i d)
    ∙ ap (λ k. flat_map line (enumerate_from 1 (take i xs)) ++ line (k, get_or xs i d)) count

-- What passes a test, of one element more.
filter_push : {X : Type 0} (p : X → Bool) (xs : List X) (x : X) → filter p (xs ++ x ∷ []) ≡ filter p xs ++ filter p (x ∷ [])
filter_push p [] x = refl
filter_push p (y ∷ ys) x = by (p y) (filter_push p ys x)
  where
    by : (b : Bool) → filter p (ys ++ x ∷ []) ≡ filter p ys ++ filter p (x ∷ []) → (if b then (y ∷ filter p (ys ++ x ∷ [])) else filter p (ys ++ x ∷ [])) ≡ (if b then (y ∷ filter p ys) else filter p ys) ++ filter p (x ∷ [])
    by true e = ap (λ l. y ∷ l) e
    by false e = e

one_of : {X : Type 0} (p : X → Bool) (x : X) → p x ≡ true → filter p (x ∷ []) ≡ x ∷ []
one_of p x e = ap (λ b. if b then (x ∷ []) else []) e

none_of : {X : Type 0} (p : X → Bool) (x : X) → p x ≡ false → filter p (x ∷ []) ≡ []
none_of p x e = ap (λ b. if b then (x ∷ []) else []) e

passing_more : {X : Type 0} (p : ℕ × X → Bool) (xs : List X) (i : ℕ) (d : X) → i < length xs
    → filter p (enumerate_from 0 (take (i + 1) xs)) ≡ filter p (enumerate_from 0 (take i xs)) ++ filter p ((i, get_or xs i d) ∷ [])
passing_more p xs i d within =
    let count : 0 + length (take i xs) ≡ i = omega (arith, length-take-le i xs (omega arith)) in
    ap (λ l. filter p (enumerate_from 0 l)) (take_more xs i d within) ∙ ap (filter p) (enumerate_push 0 (take i xs) (get_or xs i d))
    ∙ ap (λ k. filter p (enumerate_from 0 (take i xs) ++ (k, get_or xs i d) ∷ [])) count ∙ filter_push p (enumerate_from 0 (take i xs)) (i, get_or xs i d)

pub passes : {X : Type 0} (p : ℕ × X → Bool) (xs : List X) (i : ℕ) (d : X) → i < length xs → p (i, get_or xs i d) ≡ true
    → filter p (enumerate_from 0 (take (i + 1) xs)) ≡ filter p (enumerate_from 0 (take i xs)) ++ (i, get_or xs i d) ∷ []
passes p xs i d within e = passing_more p xs i d within ∙ ap (λ l. filter p (enumerate_from 0 (take i xs)) ++ l) (one_of p (i, get_or xs i d) e)

pub fails : {X : Type 0} (p : ℕ × X → Bool) (xs : List X) (i : ℕ) (d : X) → i < length xs → p (i, get_or xs i d) ≡ false
    → filter p (enumerate_from 0 (take (i + 1) xs)) ≡ filter p (enumerate_from 0 (take i xs))
fails p xs i d within e = passing_more p xs i d within ∙ ap (λ l. filter p (enumerate_from 0 (take i xs)) ++ l) (none_of p (i, get_or xs i d) e) ∙ append-nil (filter p (enumerate_from 0 (take i xs)))

-- A text that grew twice.
pub grown_twice : (out mid new head tail whole : List ℕ) → mid ≡ out ++ head → new ≡ mid ++ tail → head ++ tail ≡ whole → new ≡ out ++ whole
grown_twice out mid new head tail whole first second e = second ∙ ap (λ l. l ++ tail) first ∙ append_assoc out head tail ∙ ap (λ l. out ++ l) e

-- A text that has some lines, and one more.
pub grown_by_line : (start out new lines line more : List ℕ) → out ≡ start ++ lines → new ≡ out ++ line → more ≡ lines ++ line → new ≡ start ++ more
grown_by_line start out new lines line more first second e = second ∙ ap (λ l. l ++ line) first ∙ append_assoc start lines line ∙ ap (λ l. start ++ l) (sym e)

-- The head of a card, its value and the line feed are its line.
spaced : (d f t v e : List ℕ) → (d ++ 32 ∷ (f ++ 32 ∷ (t ++ 32 ∷ []))) ++ (v ++ e) ≡ (d ++ 32 ∷ (f ++ 32 ∷ (t ++ 32 ∷ v))) ++ e
spaced d f t v e =
    append_assoc d (32 ∷ (f ++ 32 ∷ (t ++ 32 ∷ []))) (v ++ e)
    ∙ ap (λ l. d ++ 32 ∷ l) (append_assoc f (32 ∷ (t ++ 32 ∷ [])) (v ++ e) ∙ ap (λ l. f ++ 32 ∷ l) (append_assoc t (32 ∷ []) (v ++ e) ∙ sym (append_assoc t (32 ∷ v) e)) ∙ sym (append_assoc f (32 ∷ (t ++ 32 ∷ v)) e))
    ∙ sym (append_assoc d (32 ∷ (f ++ 32 ∷ (t ++ 32 ∷ v))) e)

pub whole_card : (letter number : ℕ) (from to value : List ℕ) → card_head letter number from to ++ (value ++ 10 ∷ []) ≡ numbered_card letter number from to value
whole_card letter number from to value = ap (λ l. letter ∷ l) (spaced (decimal number) from to value (10 ∷ []))

pub card_of : (letter number : ℕ) (value : List ℕ) {from from' to to' : List ℕ} → from ≡ from' → to ≡ to' → numbered_card letter number from to value ≡ numbered_card letter number from' to' value
card_of letter number value e f = λ i. numbered_card letter number (e i) (f i) value

unequal : (x y : ℤ) → x ≢ y → int_eq x y ≡ false
unequal x y other = elim (cases_Bool (int_eq x y)) [ inl e ↦ absurd (other ((Decides-int_eq x y).0 e)) | inr e ↦ e ]

-- The line of a range whose ends differ, from its parts.
pub range_differs : (load : LoadRange) → load.low ≢ load.high → ((codes "*range " ++ printed load.low 15) ++ 32 ∷ []) ++ (printed load.high 15 ++ 10 ∷ []) ≡ range_line load
range_differs load other =
    let low = printed load.low 15 in
    let high = printed load.high 15 in
    append_assoc (codes "*range " ++ low) (32 ∷ []) (high ++ 10 ∷ [])
    ∙ sym (append_assoc (codes "*range " ++ low) (32 ∷ high) (10 ∷ []))
    ∙ ap (λ l. l ++ 10 ∷ []) (append_assoc (codes "*range ") low (32 ∷ high))
    ∙ sym (ap (λ b. if b then [] else (line_of (codes "*range" ∷ low ∷ high ∷ []))) (unequal load.low load.high other))

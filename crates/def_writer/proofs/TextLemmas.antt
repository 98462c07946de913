-- Texts that grow by lines, and entries of lists.
use Rattle.std.proofs.Common.{◌≡◌, ℕ, suc, ◌+◌, ◌<◌, Bool, true, false, ◌&&◌, List, [], ◌∷◌, ◌++◌, length, take, get_or, map, refl, sym, ap, ◌∙◌, append_assoc, arith}
use Rattle.std.specs.Prelude.{◌==◌}
use Rattle.std.specs.List.{flat_map, enumerate_from}
use Rattle.std.proofs.lemmas.List.{take_more, append-nil, length-take-le, map-append, get_or-map, length-append, length-map}
use Rattle.std.proofs.lemmas.List.Concat.{flat_map-append}
use Rattle.std.proofs.lemmas.Bool.Decides.{nat_tests}
use Rattle.def_writer.specs.Line.{line_of, text_of}
use Rattle.grid_pieces.specs.declared.piece.StackAt.{StackAt}
use Rattle.lef_tech.specs.declared.tech.Tech.{Tech}
use Rattle.def_writer.specs.Wiring.{wiring_line, wiring_lines, stack_words, array_words}

-- A text that grew twice.
pub grown_twice : (out mid new head tail whole : List ℕ) → mid ≡ out ++ head → new ≡ mid ++ tail → head ++ tail ≡ whole → new ≡ out ++ whole
grown_twice out mid new head tail whole first second e = second ∙ ap (λ l. l ++ tail) first ∙ append_assoc out head tail ∙ ap (λ l. out ++ l) e

-- A text that grew three times.
pub grown_thrice : (out one two new a b c : List ℕ) → one ≡ out ++ a → two ≡ one ++ b → new ≡ two ++ c → new ≡ out ++ (a ++ (b ++ c))
grown_thrice out one two new a b c e f g =
    grown_twice out two new (a ++ b) c (a ++ (b ++ c)) (grown_twice out one two a b (a ++ b) e f refl) g (append_assoc a b c)

-- The field of an entry that was looked up.
pub field_at : {X Y : Type 0} (f : X → Y) (xs ys : List X) (i : ℕ) (x : X) (d : Y) → ys ≡ xs → i < length xs → x ≡ get_or ys i x → f x ≡ get_or (map f xs) i d
field_at f xs ys i x d same within is =
    ap f (is ∙ ap (λ l. get_or l i x) same) ∙ sym (get_or-map f xs i x d within)

-- One more element of a list.
pub mapped_more : {X Y : Type 0} (f : X → Y) (xs : List X) (i : ℕ) (d : X) → i < length xs → map f (take (i + 1) xs) ≡ map f (take i xs) ++ f (get_or xs i d) ∷ []
mapped_more f xs i d within = ap (map f) (take_more xs i d within) ∙ map-append f (take i xs) (get_or xs i d ∷ [])

pub flat_more : {X Y : Type 0} (f : X → List Y) (xs : List X) (i : ℕ) (d : X) → i < length xs → flat_map f (take (i + 1) xs) ≡ flat_map f (take i xs) ++ f (get_or xs i d)
flat_more f xs i d within =
    ap (flat_map f) (take_more xs i d within) ∙ flat_map-append f (take i xs) (get_or xs i d ∷ [])
    ∙ ap (λ l. flat_map f (take i xs) ++ l) (append-nil (f (get_or xs i d)))

pub text-append : (xs ys : List (List (List ℕ))) → text_of (xs ++ ys) ≡ text_of xs ++ text_of ys
text-append xs ys = flat_map-append line_of xs ys

-- ## lines of wiring

always_first : (first b : Bool) → b ≡ true → first ≡ (first && b)
always_first true b h = sym h
always_first false b h = refl

never_first : (first b : Bool) → b ≡ false → false ≡ (first && b)
never_first true b h = sym h
never_first false b h = refl

none_is : (0 == 0) ≡ true
none_is = refl

some_is : (n : ℕ) → (n + 1 == 0) ≡ false
some_is n = grind (arith, nat_tests)

some_are : {X : Type 0} (x : X) (xs : List X) → (length (x ∷ xs) == 0) ≡ false
some_are x xs = let e : length (x ∷ xs) ≡ length xs + 1 = omega arith in ap (λ k. k == 0) e ∙ some_is (length xs)

-- More lines after some.
pub wiring-append : (first : Bool) (xs ys : List (List (List ℕ))) → wiring_lines first (xs ++ ys) ≡ wiring_lines first xs ++ wiring_lines (first && (length xs == 0)) ys
wiring-append first [] ys = ap (λ b. wiring_lines b ys) (always_first first (0 == 0) none_is)
wiring-append first (x ∷ xs) ys =
    ap (λ l. wiring_line first x ∷ l) (wiring-append false xs ys
    ∙ ap (λ b. wiring_lines false xs ++ wiring_lines b ys) (never_first first (length (x ∷ xs) == 0) (some_are x xs)))

-- The text of one more line.
pub one_more_line : (first : Bool) (xs : List (List (List ℕ))) (words : List (List ℕ)) →
    text_of (wiring_lines first (xs ++ words ∷ [])) ≡ text_of (wiring_lines first xs) ++ line_of (wiring_line (first && (length xs == 0)) words)
one_more_line first xs words =
    ap text_of (wiring-append first xs (words ∷ [])) ∙ text-append (wiring_lines first xs) (wiring_lines (first && (length xs == 0)) (words ∷ []))
    ∙ ap (λ l. text_of (wiring_lines first xs) ++ l) (append-nil (line_of (wiring_line (first && (length xs == 0)) words)))

-- Lines that were written, and one more.
pub line_written : (first : Bool) (xs all : List (List (List ℕ))) (words : List (List ℕ)) (n : ℕ) (start text new : List ℕ) → all ≡ xs ++ words ∷ [] → n ≡ length xs
    → text ≡ start ++ text_of (wiring_lines first xs) → new ≡ text ++ line_of (wiring_line (first && (n == 0)) words)
    → new ≡ start ++ text_of (wiring_lines first all)
line_written first xs all words n start text new more count before grown =
    grown_twice start text new (text_of (wiring_lines first xs)) (line_of (wiring_line (first && (n == 0)) words)) (text_of (wiring_lines first all)) before grown
    (ap (λ k. text_of (wiring_lines first xs) ++ line_of (wiring_line (first && (k == 0)) words)) count
    ∙ sym (one_more_line first xs words) ∙ ap (λ l. text_of (wiring_lines first l)) (sym more))

-- Lines that were written, and some more.
pub lines_written : (first : Bool) (xs ys all : List (List (List ℕ))) (next : Bool) (start text new : List ℕ) → all ≡ xs ++ ys → next ≡ (first && (length xs == 0))
    → text ≡ start ++ text_of (wiring_lines first xs) → new ≡ text ++ text_of (wiring_lines next ys) → new ≡ start ++ text_of (wiring_lines first all)
lines_written first xs ys all next start text new more is before grown =
    grown_twice start text new (text_of (wiring_lines first xs)) (text_of (wiring_lines next ys)) (text_of (wiring_lines first all)) before grown
    (ap (λ b. text_of (wiring_lines first xs) ++ text_of (wiring_lines b ys)) is
    ∙ sym (ap (λ l. text_of (wiring_lines first l)) more ∙ ap text_of (wiring-append first xs ys) ∙ text-append (wiring_lines first xs) (wiring_lines (first && (length xs == 0)) ys)))

none_both : (a b : ℕ) → ((a + b) == 0) ≡ ((a == 0) && (b == 0))
none_both a b = grind (arith, nat_tests)

and_assoc : (a b c : Bool) → ((a && b) && c) ≡ (a && (b && c))
and_assoc true b c = refl
and_assoc false b c = refl

-- Whether the next line is the first one, after more lines.
pub first_after : (first now next : Bool) (xs ys all : List (List (List ℕ))) (n : ℕ) → all ≡ xs ++ ys → n ≡ length ys → now ≡ (first && (length xs == 0)) → next ≡ (now && (n == 0))
    → next ≡ (first && (length all == 0))
first_after first now next xs ys all n more count was is =
    is ∙ ap (λ b. b && (n == 0)) was ∙ ap (λ k. (first && (length xs == 0)) && (k == 0)) count ∙ and_assoc first (length xs == 0) (length ys == 0)
    ∙ ap (λ b. first && b) (sym (none_both (length xs) (length ys)))
    ∙ ap (λ k. first && (k == 0)) (sym (ap length more ∙ length-append xs ys))

-- An element after a list that is numbered.
pub enumerate_push : {X : Type 0} (n : ℕ) (xs : List X) (x : X) → enumerate_from n (xs ++ x ∷ []) ≡ enumerate_from n xs ++ (n + length xs, x) ∷ []
enumerate_push n [] x = let e : n ≡ n + 0 = omega arith in ap (λ k. (k, x) ∷ []) e
enumerate_push n (y ∷ ys) x =
    let e : n + 1 + length ys ≡ n + length (y ∷ ys) = omega arith in
    ap (λ l. (n, y) ∷ l) (enumerate_push (n + 1) ys x ∙ ap (λ k. enumerate_from (n + 1) ys ++ (k, x) ∷ []) e)

-- One more element of a list that is numbered.
pub numbered_more : {X Y : Type 0} (f : ℕ × X → Y) (n : ℕ) (xs : List X) (i : ℕ) (d : X) → i < length xs
    → map f (enumerate_from n (take (i + 1) xs)) ≡ map f (enumerate_from n (take i xs)) ++ f (n + i, get_or xs i d) ∷ []
numbered_more f n xs i d within =
    ap (λ l. map f (enumerate_from n l)) (take_more xs i d within) ∙ ap (map f) (enumerate_push n (take i xs) (get_or xs i d))
    ∙ map-append f (enumerate_from n (take i xs)) ((n + length (take i xs), get_or xs i d) ∷ [])
    ∙ ap (λ k. map f (enumerate_from n (take i xs)) ++ f (n + k, get_or xs i d) ∷ []) (length-take-le i xs (omega arith))

length_enumerated : {X : Type 0} (n : ℕ) (xs : List X) → length (enumerate_from n xs) ≡ length xs
length_enumerated n [] = refl
length_enumerated n (x ∷ xs) = ap (λ k. suc k) (length_enumerated (n + 1) xs)

pub numbered_count : {X Y : Type 0} (f : ℕ × X → Y) (n : ℕ) (xs : List X) (i : ℕ) → i < length xs → i ≡ length (map f (enumerate_from n (take i xs)))
numbered_count f n xs i within =
    sym (length-map (enumerate_from n (take i xs)) f ∙ length_enumerated n (take i xs) ∙ length-take-le i xs (omega arith))

pub mapped_count : {X Y : Type 0} (f : X → Y) (xs : List X) (i : ℕ) → i < length xs → i ≡ length (map f (take i xs))
mapped_count f xs i within = sym (length-map (take i xs) f ∙ length-take-le i xs (omega arith))

pub stack_count : (tech : Tech) (at : StackAt) → length at.stack.arrays ≡ length (stack_words tech at)
stack_count tech at =
    sym (length-map (enumerate_from at.stack.from at.stack.arrays) (array_words tech (at.x, at.y)) ∙ length_enumerated at.stack.from at.stack.arrays)

-- The lines of one more element of a list that is numbered.
pub flat_numbered_more : {X Y : Type 0} (f : ℕ × X → List Y) (xs : List X) (i : ℕ) (d : X) → i < length xs
    → flat_map f (enumerate_from 0 (take (i + 1) xs)) ≡ flat_map f (enumerate_from 0 (take i xs)) ++ f (i, get_or xs i d)
flat_numbered_more f xs i d within =
    let count : 0 + length (take i xs) ≡ i = omega (arith, length-take-le i xs (omega arith)) in
    ap (λ l. flat_map f (enumerate_from 0 l)) (take_more xs i d within) ∙ ap (flat_map f) (enumerate_push 0 (take i xs) (get_or xs i d))
    ∙ flat_map-append f (enumerate_from 0 (take i xs)) ((0 + length (take i xs), get_or xs i d) ∷ [])
    ∙ ap (λ l. flat_map f (enumerate_from 0 (take i xs)) ++ l) (append-nil (f (0 + length (take i xs), get_or xs i d)))
    ∙ ap (λ k. flat_map f (enumerate_from 0 (take i xs)) ++ f (k, get_or xs i d)) count

-- A text of lines, and more lines.
pub text_grown : (start text new : List ℕ) (lines line all : List (List (List ℕ))) → text ≡ start ++ text_of lines → new ≡ text ++ text_of line → all ≡ lines ++ line → new ≡ start ++ text_of all
text_grown start text new lines line all before grown more =
    grown_twice start text new (text_of lines) (text_of line) (text_of all) before grown (sym (ap text_of more ∙ text-append lines line))

-- One more word of a line, and texts that grow.
use Rattle.std.proofs.Common.{◌≡◌, ℕ, ◌+◌, ◌<◌, List, [], ◌∷◌, ◌++◌, length, take, get_or, map, refl, sym, ap, ◌∙◌, append_assoc, arith, Bor}
use Rattle.std.specs.List.{join_with_byte}
use Rattle.def_writer.specs.Line.{line_of}
use Rattle.std.proofs.lemmas.List.{take_more, append-nil, length-take-le, length-map, map-append}

pushed : (c : ℕ) (x : List ℕ) (xs : List (List ℕ)) (w : List ℕ) → join_with_byte c ((x ∷ xs) ++ w ∷ []) ≡ join_with_byte c (x ∷ xs) ++ c ∷ w
pushed c x [] w = refl
pushed c x (y ∷ ys) w = ap (λ l. x ++ (c ∷ l)) (pushed c y ys w) ∙ sym (append_assoc x (c ∷ join_with_byte c (y ∷ ys)) (c ∷ w))

pushed_to : (c : ℕ) (xs : List (List ℕ)) (w : List ℕ) → 0 < length xs → join_with_byte c (xs ++ w ∷ []) ≡ join_with_byte c xs ++ c ∷ w
pushed_to c [] w some = absurd (omega arith)
pushed_to c (x ∷ xs) w some = pushed c x xs w

abbrev now_of : Bor (List ℕ) → List ℕ
now_of word = word.now

taken : (words : List (Bor (List ℕ))) (i : ℕ) (d : Bor (List ℕ)) → i < length words
    → map now_of (take (i + 1) words) ≡ map now_of (take i words) ++ (get_or words i d).now ∷ []
taken words i d within = ap (map now_of) (take_more words i d within) ∙ map-append now_of (take i words) (get_or words i d ∷ [])

-- A word that is not the first comes after a blank.
pub next_word : (words : List (Bor (List ℕ))) (i : ℕ) (d : Bor (List ℕ)) (start text blank new : List ℕ) → i < length words → 0 < i
    → text ≡ start ++ join_with_byte 32 (map (λ word. word.now) (take i words)) → blank ≡ text ++ 32 ∷ [] → new ≡ blank ++ (get_or words i d).now
    → new ≡ start ++ join_with_byte 32 (map (λ word. word.now) (take (i + 1) words))
next_word words i d start text blank new within some before sep word =
    let front = map now_of (take i words) in
    let many : 0 < length front = omega (arith, length-map (take i words) now_of, length-take-le i words (omega arith)) in
    let last = (get_or words i d).now in
    word ∙ ap (λ l. l ++ last) (sep ∙ ap (λ l. l ++ 32 ∷ []) before)
    ∙ append_assoc (start ++ join_with_byte 32 front) (32 ∷ []) last ∙ append_assoc start (join_with_byte 32 front) (32 ∷ last)
    ∙ ap (λ l. start ++ l) (sym (ap (join_with_byte 32) (taken words i d within) ∙ pushed_to 32 front last many))

-- The first word.
pub first_word : (words : List (Bor (List ℕ))) (i : ℕ) (d : Bor (List ℕ)) (start text mid new : List ℕ) → i < length words → i ≡ 0
    → text ≡ start ++ join_with_byte 32 (map (λ word. word.now) (take i words)) → mid ≡ text → new ≡ mid ++ (get_or words i d).now
    → new ≡ start ++ join_with_byte 32 (map (λ word. word.now) (take (i + 1) words))
first_word words i d start text mid new within none before same word =
    let last = (get_or words i d).now in
    let empty : take i words ≡ [] = ap (λ k. take k words) none in
    let e : text ≡ start = before ∙ ap (λ l. start ++ join_with_byte 32 (map now_of l)) empty ∙ append-nil start in
    word ∙ ap (λ l. l ++ last) (same ∙ e)
    ∙ ap (λ l. start ++ l) (sym (ap (join_with_byte 32) (taken words i d within ∙ ap (λ l. map now_of l ++ last ∷ []) empty)))

-- A line of some words and some more.
pub line_joined : (xs ys : List (List ℕ)) → 0 < length xs → 0 < length ys → join_with_byte 32 xs ++ (32 ∷ line_of ys) ≡ line_of (xs ++ ys)
line_joined [] ys some more = absurd (omega arith)
line_joined (x ∷ xs) [] some more = absurd (omega arith)
line_joined (x ∷ []) (y ∷ ys) some more = sym (append_assoc x (32 ∷ join_with_byte 32 (y ∷ ys)) (10 ∷ []))
line_joined (x ∷ z ∷ zs) (y ∷ ys) some more =
    append_assoc x (32 ∷ join_with_byte 32 (z ∷ zs)) (32 ∷ line_of (y ∷ ys))
    ∙ ap (λ l. x ++ (32 ∷ l)) (line_joined (z ∷ zs) (y ∷ ys) (omega arith) (omega arith))
    ∙ sym (append_assoc x (32 ∷ join_with_byte 32 ((z ∷ zs) ++ y ∷ ys)) (10 ∷ []))

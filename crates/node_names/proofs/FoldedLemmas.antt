-- What a comparison and a hash say of names in lower case, byte by byte.
use Rattle.std.proofs.Common.{◌≡◌, ◌≢◌, ℕ, ◌+◌, ◌<◌, ◌≤◌, suc, true, false, ◌&&◌, List, [], ◌∷◌, length, take, drop, get_or, inl, inr, true≢false, refl, sym, ap, ◌∙◌, drop-cons, arith}
use Rattle.std.specs.List.{fold, flat_map}
use Rattle.std.specs.Char.{to_ascii_lowercase}
use Rattle.std.specs.Str.{bytes_eq}
use Rattle.std.specs.Hash as fed
use Rattle.std.specs.declared.cmp.Ordering.{Ordering}
use Rattle.std.specs.declared.cmp.Ordering.TheVariants.{Less, Equal, Greater}
use Rattle.std.specs.Ordering.{ordering_then, nat_cmp, is_ne}
use Rattle.std.specs.Cmp.Lexicographic.{slice_cmp}
use Rattle.std.proofs.lemmas.Bool.{eq-eqb}
use Rattle.std.proofs.lemmas.Bool.Decides.{eqb_tells}
use Rattle.std.proofs.lemmas.List.{drop_all, get_or-map, length-map, map_push, take_more}
use Rattle.std.proofs.lemmas.List.Sums.{fold-append}
use Rattle.std.proofs.lemmas.Grind.{flat_map-append}
use Rattle.node_names.specs.Folding.{folded}

-- A name in lower case from a place on: its byte there, and the rest.
pub drop_folded : (name : List ℕ) (i : ℕ) → i < length name → drop i (folded name) ≡ to_ascii_lowercase (get_or name i 0) ∷ drop (i + 1) (folded name)
drop_folded name i within =
    let next : suc i ≡ i + 1 = omega arith in
    drop-cons (folded name) i (to_ascii_lowercase 0) (omega (arith, length-map name to_ascii_lowercase))
    ∙ ap (λ b. b ∷ drop (suc i) (folded name)) (get_or-map to_ascii_lowercase name i 0 (to_ascii_lowercase 0) within)
    ∙ ap (λ k. to_ascii_lowercase (get_or name i 0) ∷ drop k (folded name)) next

-- Past its end nothing is left.
pub drop_ended : (name : List ℕ) (i : ℕ) → length name ≤ i → drop i (folded name) ≡ []
drop_ended name i past = drop_all i (folded name) (omega (arith, length-map name to_ascii_lowercase))

-- Two functions of the rests of two names.
pub at_rests : {X : Type 0} (f : List ℕ → List ℕ → X) {a b c d : List ℕ} → a ≡ b → c ≡ d → f a c ≡ f b d
at_rests f e g = λ i. f (e i) (g i)

pub same_bytes : (x y : ℕ) (xs ys : List ℕ) → x ≡ y → bytes_eq (x ∷ xs) (y ∷ ys) ≡ bytes_eq xs ys
same_bytes x y xs ys e = ap (λ b. b && bytes_eq xs ys) (eq-eqb x y e)

pub other_bytes : (x y : ℕ) (xs ys : List ℕ) → x ≢ y → bytes_eq (x ∷ xs) (y ∷ ys) ≡ false
other_bytes x y xs ys e = elim (eqb_tells x y) [ inl h ↦ absurd (e h.1) | inr h ↦ ap (λ b. b && bytes_eq xs ys) h.0 ]

-- A byte that differs decides the order, and one that is the same leaves it to the rest.
pub decided : (o p : Ordering) → is_ne o ≡ true → ordering_then o p ≡ o
decided Less p e = refl
decided Equal p e = absurd (true≢false (sym e))
decided Greater p e = refl

pub left_open : (o p : Ordering) → is_ne o ≡ false → ordering_then o p ≡ p
left_open Less p e = absurd (true≢false e)
left_open Equal p e = refl
left_open Greater p e = absurd (true≢false e)

-- Of two names of which one has ended, the shorter stands first.
pub first_ended : (ys : List ℕ) → 0 < length ys → slice_cmp nat_cmp [] ys ≡ Less
first_ended [] some = absurd (omega arith)
first_ended (y ∷ ys) some = refl

pub both_ended : (ys : List ℕ) → length ys ≤ 0 → slice_cmp nat_cmp [] ys ≡ Equal
both_ended [] none = refl
both_ended (y ∷ ys) none = absurd (omega arith)

-- One more byte is hashed.
pub hashed_more : {H : Type 0} (write : H → List ℕ → H) (state : H) (name : List ℕ) (i : ℕ) → i < length name
    → fold write state (flat_map fed.u8 (folded (take (i + 1) name))) ≡ write (fold write state (flat_map fed.u8 (folded (take i name)))) (to_ascii_lowercase (get_or name i 0) ∷ [])
hashed_more write state name i within =
    let byte : ℕ = to_ascii_lowercase (get_or name i 0) in
    ap (λ l. fold write state (flat_map fed.u8 (folded l))) (take_more name i 0 within)
    ∙ ap (λ l. fold write state (flat_map fed.u8 l)) (map_push to_ascii_lowercase (take i name) (get_or name i 0))
    ∙ ap (fold write state) (flat_map-append fed.u8 (folded (take i name)) (byte ∷ []))
    ∙ fold-append write state (flat_map fed.u8 (folded (take i name))) ((byte ∷ []) ∷ [])

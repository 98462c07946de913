-- Names that are numbered as they come, and lists that grow.
use Rattle.std.proofs.Common.{◌≡◌, ◌↔◌, ◌⊎◌, ℕ, zero, suc, List, [], ◌∷◌, ◌++◌, slice_get, Contains, Option, None, Some, inl, inr, sym, ◌∙◌, ap, subst, arith}
use Rattle.std.proofs.lemmas.List.{append-nil}
use Rattle.std.proofs.lemmas.List.Elements.{Contains-append_cases, Contains-append_left, Contains-append_right, filter_map-append}
use Rattle.std.proofs.lemmas.Grind.{flat_map-append}
use Rattle.std.specs.Prelude.{filter_map, flat_map}
use Rattle.std.specs.List.{cons_option}
use Rattle.entry_list.specs.InTurn.{InTurn}
use Rattle.name_table.specs.Laws.{member_cases, member_head, member_tail}
use Rattle.name_table.specs.Numbering.{TakesName}
use Rattle.spice_cards.specs.inside.Held.{TakesNames}

-- ## names

-- Each name keeps its number.
abbrev pub Grows : List (List ℕ) → List (List ℕ) → Type 0
Grows old new = (i : ℕ) (name : List ℕ) → slice_get old i ≡ Some name → slice_get new i ≡ Some name

get-grown : (xs ys : List (List ℕ)) (i : ℕ) (x : List ℕ) → slice_get xs i ≡ Some x → slice_get (xs ++ ys) i ≡ Some x
get-grown [] ys i x h = cc
get-grown (y ∷ xs) ys zero x h = h
get-grown (y ∷ xs) ys (suc i) x h = get-grown xs ys i x h

pub taken-grows : (old new : List (List ℕ)) (name : List ℕ) → TakesName old new name → Grows old new
taken-grows old new name (inl h) = λ i x e. subst (λ z. slice_get z i ≡ Some x) (sym h.1) e
taken-grows old new name (inr h) = λ i x e. subst (λ z. slice_get z i ≡ Some x) (sym h.1) (get-grown old (name ∷ []) i x e)

pub all-grow : (old : List (List ℕ)) (names new : List (List ℕ)) → TakesNames old names new → Grows old new
all-grow old [] new h = λ i x e. subst (λ z. slice_get z i ≡ Some x) (sym h) e
all-grow old (name ∷ names) new h = λ i x e. all-grow h.0 names new h.2 i x (taken-grows old h.0 name h.1 i x e)

no-member : (x : List ℕ) → Contains {X = List ℕ} [] x → ⊥
no-member x h = omega (arith, h.1)

taken-has : (old new : List (List ℕ)) (name x : List ℕ) → TakesName old new name → Contains new x ↔ (Contains old x ⊎ Contains (name ∷ []) x)
taken-has old new name x (inl h) = (
  (λ k. inl (subst (λ z. Contains z x) h.1 k)),
  (λ k. elim k [
    | inl a ↦ subst (λ z. Contains z x) (sym h.1) a
    | inr a ↦ elim (member_cases name [] x a) [
      | inl e ↦ subst (λ z. Contains z x) (sym h.1) (subst (λ z. Contains old z) e h.0)
      | inr b ↦ absurd (no-member x b)
    ]
  ]),
)
taken-has old new name x (inr h) = (
  (λ k. Contains-append_cases old (name ∷ []) x (subst (λ z. Contains z x) h.1 k)),
  (λ k. subst (λ z. Contains z x) (sym h.1) (elim k [
    | inl a ↦ Contains-append_left old (name ∷ []) x a
    | inr a ↦ Contains-append_right old (name ∷ []) x a
  ])),
)

-- The names are those before and those that were taken.
pub all-have : (old : List (List ℕ)) (names new : List (List ℕ)) (x : List ℕ) → TakesNames old names new → Contains new x ↔ (Contains old x ⊎ Contains names x)
all-have old [] new x h = (
  (λ k. inl (subst (λ z. Contains z x) h k)),
  (λ k. elim k [ inl a ↦ subst (λ z. Contains z x) (sym h) a | inr a ↦ absurd (no-member x a) ]),
)
all-have old (name ∷ names) new x h =
    let first = taken-has old h.0 name x h.1 in
    let rest = all-have h.0 names new x h.2 in (
      (λ k. elim (rest.0 k) [
        | inl a ↦ elim (first.0 a) [
          | inl b ↦ inl b
          | inr b ↦ inr (Contains-append_left (name ∷ []) names x b)
        ]
        | inr a ↦ inr (member_tail name names x a)
      ]),
      (λ k. rest.1 (elim k [
        | inl a ↦ inl (first.1 (inl a))
        | inr a ↦ elim (member_cases name names x a) [
          | inl e ↦ inl (first.1 (inr (subst (λ z. Contains (name ∷ []) z) e (member_head name []))))
          | inr b ↦ inr b
        ]
      ])),
    )

-- The names of two lists, one after the other.
pub all-joined : (old : List (List ℕ)) (names more mid new : List (List ℕ)) → TakesNames old names mid → TakesNames mid more new → TakesNames old (names ++ more) new
all-joined old [] more mid new h k = subst (λ z. TakesNames z more new) h k
all-joined old (name ∷ names) more mid new h k = (h.0, h.1, all-joined h.0 names more mid new h.2 k)

-- ## lists in turn

pub turn-map : {L E : Type 0} (says tells : L → E → Type 0) → ((line : L) (entry : E) → says line entry → tells line entry) →
    (lines : List L) (entries : List E) → InTurn says lines entries → InTurn tells lines entries
turn-map says tells said [] [] h = tt
turn-map says tells said (l ∷ lines) (e ∷ entries) h = (said l e h.0, turn-map says tells said lines entries h.1)
turn-map says tells said [] (e ∷ entries) h = absurd h
turn-map says tells said (l ∷ lines) [] h = absurd h

pub turn-one : {L E : Type 0} (says : L → E → Type 0) (lines : List L) (entries : List E) (line : L) (entry : E) →
    InTurn says lines entries → says line entry → InTurn says (lines ++ line ∷ []) (entries ++ entry ∷ [])
turn-one says [] [] line entry h s = (s, tt)
turn-one says (l ∷ lines) (e ∷ entries) line entry h s = (h.0, turn-one says lines entries line entry h.1 s)
turn-one says [] (e ∷ entries) line entry h s = absurd h
turn-one says (l ∷ lines) [] line entry h s = absurd h

-- ## maps of lists that grow

one-some : {X Y : Type 0} (f : X → Option Y) (x : X) (y : Y) → f x ≡ Some y → filter_map f (x ∷ []) ≡ y ∷ []
one-some f x y e = ap (λ z. cons_option z []) e

one-none : {X Y : Type 0} (f : X → Option Y) (x : X) → f x ≡ None → filter_map f (x ∷ []) ≡ []
one-none f x e = ap (λ z. cons_option z []) e

pub filtered-some : {X Y : Type 0} (f : X → Option Y) (xs : List X) (x : X) (y : Y) → f x ≡ Some y → filter_map f (xs ++ x ∷ []) ≡ filter_map f xs ++ y ∷ []
filtered-some f xs x y e = filter_map-append f xs (x ∷ []) ∙ ap (λ z. filter_map f xs ++ z) (one-some f x y e)

pub filtered-none : {X Y : Type 0} (f : X → Option Y) (xs : List X) (x : X) → f x ≡ None → filter_map f (xs ++ x ∷ []) ≡ filter_map f xs
filtered-none f xs x e = filter_map-append f xs (x ∷ []) ∙ ap (λ z. filter_map f xs ++ z) (one-none f x e) ∙ append-nil (filter_map f xs)

pub flat-one : {X A : Type 0} (f : X → List A) (xs : List X) (x : X) → flat_map f (xs ++ x ∷ []) ≡ flat_map f xs ++ f x
flat-one f xs x = flat_map-append f xs (x ∷ []) ∙ ap (λ z. flat_map f xs ++ z) (append-nil (f x))

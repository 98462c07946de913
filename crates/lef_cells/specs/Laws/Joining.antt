-- The names of entries, and the entries that have none of them.
use Rattle.std.proofs.Common.{◌≡◌, ◌↔◌, IsTrue, ℕ, ◌+◌, ◌<◌, ◌⊎◌, inl, inr, Bool, true, false, not, cond, List, [], ◌∷◌, ◌++◌, map, filter, take, length, get_or, All, Contains, refl, sym, ◌∙◌, ap, subst}
use Rattle.std.proofs.lemmas.List.{map_more}
use Rattle.std.proofs.lemmas.List.Elements.{Contains-append_left, Contains-append_right, Contains-append_cases, All-append, All-filter}
use Rattle.list_laws.specs.Among.{is_among}
use Rattle.list_laws.specs.Laws.Among.{no_member, among, member, told}
use Rattle.name_table.specs.Laws.{member_cases, member_head}
use Rattle.name_table.specs.Numbering.{TakesName}
use Rattle.lef_cells.specs.Join.{without, joined}

-- A table's answer tells whether the name is among its names.
pub told_of : (names : List (List ℕ)) (name other : List ℕ) (there : Bool) → name ≡ other → IsTrue there ↔ Contains names name →
    there ≡ is_among names other
told_of names name other there e tells = told names name there tells ∙ ap (is_among names) e

-- ## the names of entries

pub none_yet : {T : Type 0} (f : T → List ℕ) (xs : List T) (names : List (List ℕ)) → names ≡ [] →
    (name : List ℕ) → Contains names name ↔ Contains (map f (take 0 xs)) name
none_yet f xs names e name = subst (λ z. Contains z name ↔ Contains [] name) (sym e) ((λ h. h), (λ h. h))

last_cases : (ms : List (List ℕ)) (n name : List ℕ) → Contains (ms ++ n ∷ []) name → Contains ms name ⊎ (n ≡ name)
last_cases ms n name h = elim (Contains-append_cases ms (n ∷ []) name h) [
  | inl there ↦ inl there
  | inr one ↦ elim (member_cases n [] name one) [ inl e ↦ inr e | inr none ↦ absurd (no_member name none) ]
]

last_there : (ms : List (List ℕ)) (n name : List ℕ) → Contains ms name ⊎ (n ≡ name) → Contains (ms ++ n ∷ []) name
last_there ms n name (inl h) = Contains-append_left ms (n ∷ []) name h
last_there ms n name (inr e) = Contains-append_right ms (n ∷ []) name (subst (λ z. Contains (n ∷ []) z) e (member_head n []))

grown : (old new ms : List (List ℕ)) (n : List ℕ) → TakesName old new n → ((name : List ℕ) → Contains old name ↔ Contains ms name) →
    (name : List ℕ) → Contains new name ↔ Contains (ms ++ n ∷ []) name
grown old new ms n (inl h) same name = (
  (λ k. last_there ms n name (inl ((same name).0 (subst (λ z. Contains z name) h.1 k)))),
  (λ k. subst (λ z. Contains z name) (sym h.1) (elim (last_cases ms n name k) [
    | inl there ↦ (same name).1 there
    | inr e ↦ subst (λ z. Contains old z) e h.0
  ])),
)
grown old new ms n (inr h) same name = (
  (λ k. elim (last_cases old n name (subst (λ z. Contains z name) h.1 k)) [
    | inl there ↦ last_there ms n name (inl ((same name).0 there))
    | inr e ↦ last_there ms n name (inr e)
  ]),
  (λ k. subst (λ z. Contains z name) (sym h.1) (elim (last_cases ms n name k) [
    | inl there ↦ last_there old n name (inl ((same name).1 there))
    | inr e ↦ last_there old n name (inr e)
  ])),
)

pub one_more : {T : Type 0} (f : T → List ℕ) (xs : List T) (i : ℕ) (d : T) (old new : List (List ℕ)) (n : List ℕ) → i < length xs →
    n ≡ f (get_or xs i d) → TakesName old new n → ((name : List ℕ) → Contains old name ↔ Contains (map f (take i xs)) name) →
    (name : List ℕ) → Contains new name ↔ Contains (map f (take (i + 1) xs)) name
one_more f xs i d old new n h e taken same name =
    subst (λ z. Contains new name ↔ Contains z name) (sym (map_more f xs i d h ∙ ap (λ z. map f (take i xs) ++ z ∷ []) (sym e)))
    (grown old new (map f (take i xs)) n taken same name)

-- ## a table with the names of entries

same_test : (a b : Bool) → (a ≡ true → b ≡ true) → (b ≡ true → a ≡ true) → a ≡ b
same_test true b h k = sym (h refl)
same_test false false h k = refl
same_test false true h k = k refl

same_among : (names others : List (List ℕ)) → ((name : List ℕ) → Contains names name ↔ Contains others name) → (name : List ℕ) →
    is_among names name ≡ is_among others name
same_among names others same name = same_test (is_among names name) (is_among others name)
    (λ h. among others name ((same name).0 (member names name h))) (λ h. among names name ((same name).1 (member others name h)))

same_filter : {T : Type 0} (p q : T → Bool) → ((x : T) → p x ≡ q x) → (xs : List T) → filter p xs ≡ filter q xs
same_filter p q same [] = refl
same_filter p q same (x ∷ xs) =
    ap (λ z. cond z (x ∷ filter p xs) (filter p xs)) (same x) ∙ ap (λ z. cond (q x) (x ∷ z) z) (same_filter p q same xs)

-- What has none of the names of a table has none of the names of the entries whose names these are.
pub same_without : {T : Type 0} (f : T → List ℕ) (names : List (List ℕ)) (taken xs : List T) →
    ((name : List ℕ) → Contains names name ↔ Contains (map f taken) name) →
    filter (λ x. not (is_among names (f x))) xs ≡ without f taken xs
same_without f names taken xs same =
    same_filter (λ x. not (is_among names (f x))) (λ x. not (is_among (map f taken) (f x)))
    (λ x. ap not (same_among names (map f taken) same (f x))) xs

-- ## two lists joined

-- All entries of two lists joined keep what the entries of each keep.
pub joined_all : {T : Type 0} (keeps : T → Type 0) (f : T → List ℕ) (first second both : List T) → both ≡ joined f first second → All keeps first →
    All keeps second → All keeps both
joined_all keeps f first second both is one two =
    subst (λ z. All keeps z) (sym is) (All-append keeps first (without f first second) one
    (All-filter (λ x. not (is_among (map f first) (f x))) keeps second two))

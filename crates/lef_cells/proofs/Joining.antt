-- The names of two lists joined.
use Rattle.std.proofs.Common.{◌≡◌, ◌≢◌, ℕ, suc, Bool, true, false, not, cond, List, [], ◌∷◌, ◌++◌, map, filter, get_or, All, Contains, refl, sym, ◌∙◌, ap, subst, arith}
use Rattle.std.proofs.lemmas.List.{map-append}
use Rattle.std.proofs.lemmas.List.Elements.{All-nil, All-cons, All-append}
use Rattle.std.proofs.lemmas.List.Kept.{AllPairs-cons, AllPairs-filter}
use Rattle.list_laws.specs.Among.{is_among}
use Rattle.list_laws.specs.Laws.Among.{among}
use Rattle.name_table.specs.Laws.{member_head, member_tail}
use Rattle.name_table.specs.Numbering.{AreDistinct}
use Rattle.lef_cells.specs.Join.{without, joined}

chosen_by : {X : Type 0} (test : X → Bool) (x : X) (b : Bool) → test x ≡ b → (rest : List X) → All (λ x. test x ≡ true) rest →
    All (λ x. test x ≡ true) (cond b (x ∷ rest) rest)
chosen_by test x true e rest h = All-cons (λ x. test x ≡ true) x rest e h
chosen_by test x false e rest h = h

chosen : {X : Type 0} (test : X → Bool) (xs : List X) → All (λ x. test x ≡ true) (filter test xs)
chosen test [] = All-nil (λ x. test x ≡ true)
chosen test (x ∷ xs) = chosen_by test x (test x) refl (filter test xs) (chosen test xs)

other : (names : List (List ℕ)) (a b : List ℕ) → Contains names a → not (is_among names b) ≡ true → a ≡ b → ⊥
other names a b there h e =
    let t : not (is_among names b) ≡ false = ap not (subst (λ z. is_among names z ≡ true) e (among names a there)) in
    let no : true ≡ false = sym h ∙ t in cc

distinct_tail : (name : List ℕ) (names : List (List ℕ)) → AreDistinct (name ∷ names) → AreDistinct names
distinct_tail name names h = λ i j d less below. h (suc i) (suc j) d (omega arith) (omega arith)

distinct_head : (name : List ℕ) (names : List (List ℕ)) → AreDistinct (name ∷ names) → All (λ z. name ≢ z) names
distinct_head name names h = λ k d below. h 0 (suc k) d (omega arith) (omega arith)

distinct_both : (all ns ms : List (List ℕ)) → ((n : List ℕ) → Contains ns n → Contains all n) → AreDistinct ns → AreDistinct ms →
    All (λ m. not (is_among all m) ≡ true) ms → AreDistinct (ns ++ ms)
distinct_both all [] ms sub one two new = two
distinct_both all (n ∷ ns) ms sub one two new =
    AllPairs-cons (λ a b. a ≢ b) n (ns ++ ms)
    (All-append (λ z. n ≢ z) ns ms (distinct_head n ns one) (λ k d below. other all n (get_or ms k d) (sub n (member_head n ns)) (new k d below)))
    (distinct_both all ns ms (λ x there. sub x (member_tail n ns x there)) (distinct_tail n ns one) two new)

names_by : {T : Type 0} (f : T → List ℕ) (test : List ℕ → Bool) (x : T) (b : Bool) (rest : List T) (names : List (List ℕ)) → map f rest ≡ names →
    map f (cond b (x ∷ rest) rest) ≡ cond b (f x ∷ names) names
names_by f test x true rest names e = ap (λ z. f x ∷ z) e
names_by f test x false rest names e = e

names_chosen : {T : Type 0} (f : T → List ℕ) (test : List ℕ → Bool) (xs : List T) → map f (filter (λ x. test (f x)) xs) ≡ filter test (map f xs)
names_chosen f test [] = refl
names_chosen f test (x ∷ xs) = names_by f test x (test (f x)) (filter (λ x. test (f x)) xs) (filter test (map f xs)) (names_chosen f test xs)

-- The names of two lists joined differ, where those of each differ.
pub joined_distinct : {T : Type 0} (f : T → List ℕ) (first second both : List T) → both ≡ joined f first second → AreDistinct (map f first) →
    AreDistinct (map f second) → AreDistinct (map f both)
joined_distinct f first second both is one two =
    let ns = map f first in
    let test : List ℕ → Bool = λ n. not (is_among ns n) in
    subst AreDistinct (sym (ap (map f) is ∙ map-append f first (without f first second) ∙ ap (λ z. ns ++ z) (names_chosen f test second)))
    (distinct_both ns ns (filter test (map f second)) (λ n there. there) one (AllPairs-filter (λ a b. a ≢ b) test (map f second) two)
    (chosen test (map f second)))

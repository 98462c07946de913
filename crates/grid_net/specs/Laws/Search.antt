-- Searches for the first answer.
use Rattle.std.proofs.Common.{◌≡◌, ℕ, zero, suc, ◌+◌, ◌<◌, inl, inr, arith, refl, sym, ap, ◌∙◌, List, [], ◌∷◌, length, get_or, take, All, Option, Some, None, true, false, is_some, add-one, le_of_suc-le-suc}
use Rattle.std.proofs.lemmas.Bool.{cases_lt}
use Rattle.std.proofs.lemmas.List.Elements.{All-head, All-tail, All-nil, All-cons}
use Rattle.grid_net.specs.Search.{or_else, first_below, first_of}

-- ---- the parts of a search
pub none_first : {X : Type 0} (a b : Option X) → or_else a b ≡ None → a ≡ None
none_first None b e = refl
none_first (Some x) b e = e

pub none_second : {X : Type 0} (a b : Option X) → or_else a b ≡ None → b ≡ None
none_second None b e = e
none_second {X} (Some x) b e = absurd (let f : ◌≡◌ {A = Option X} (Some x) None = e in cc)

pub none_both : {X : Type 0} (a b : Option X) → a ≡ None → b ≡ None → or_else a b ≡ None
none_both a b e f = ap (λ o. or_else o b) e ∙ f

pub some_first : {X : Type 0} (a b : Option X) (x : X) → a ≡ Some x → or_else a b ≡ Some x
some_first a b x e = ap (λ o. or_else o b) e

pub none_below : {X : Type 0} (n : ℕ) (test : ℕ → Option X) → first_below n test ≡ None → (i : ℕ) → i < n
    → test i ≡ None
none_below zero test e i l = absurd (omega arith)
none_below (suc n) test e i l = elim (cases_lt i n) [
  | inl lt ↦ none_below n test (none_first (first_below n test) (test n) e) i lt
  | inr ge ↦ (let same : i ≡ n = omega arith in ap test same ∙ none_second (first_below n test) (test n) e)
]

pub below_none : {X : Type 0} (n : ℕ) (test : ℕ → Option X) → ((i : ℕ) → i < n → test i ≡ None)
    → first_below n test ≡ None
below_none zero test h = refl
below_none (suc n) test h =
    none_both (first_below n test) (test n) (below_none n test (λ i l. h i (omega arith))) (h n (omega arith))

-- The first that is found, going up.
pub found_below : {X : Type 0} (n i : ℕ) (test : ℕ → Option X) (x : X) → i < n → first_below i test ≡ None
    → test i ≡ Some x → first_below n test ≡ Some x
found_below zero i test x l none e = absurd (omega arith)
found_below (suc n) i test x l none e = elim (cases_lt i n) [
  | inl lt ↦ some_first (first_below n test) (test n) x (found_below n i test x lt none e)
  | inr ge ↦ (let same : i ≡ n =
      omega arith in ap (λ o. or_else o (test n)) (ap (λ k. first_below k test) (sym same) ∙ none)
      ∙ ap test (sym same) ∙ e)
]

pub none_of : {X Y : Type 0} (test : X → Option Y) (xs : List X) → first_of test xs ≡ None → All (λ x. test x ≡ None) xs
none_of test [] e = All-nil (λ x. test x ≡ None)
none_of test (x ∷ xs) e =
    All-cons (λ y. test y ≡ None) x xs (none_first (test x) (first_of test xs) e)
    (none_of test xs (none_second (test x) (first_of test xs) e))

pub of_none : {X Y : Type 0} (test : X → Option Y) (xs : List X) → All (λ x. test x ≡ None) xs → first_of test xs ≡ None
of_none test [] all = refl
of_none test (x ∷ xs) all =
    none_both (test x) (first_of test xs) (All-head (λ y. test y ≡ None) x xs all)
    (of_none test xs (All-tail (λ y. test y ≡ None) x xs all))

-- One more entry of a list that holds nothing so far.
pub none_so_far : {X Y : Type 0} (test : X → Option Y) (xs : List X) (k : ℕ) (d : X) → k < length xs
    → first_of test (take k xs) ≡ None → test (get_or xs k d) ≡ None → first_of test (take (suc k) xs) ≡ None
none_so_far test [] k d l e f = absurd (omega arith)
none_so_far test (x ∷ xs) zero d l e f = none_both (test x) None f refl
none_so_far test (x ∷ xs) (suc k) d l e f =
    none_both (test x) (first_of test (take (suc k) xs)) (none_first (test x) (first_of test (take k xs)) e)
    (none_so_far test xs k d (le_of_suc-le-suc l) (none_second (test x) (first_of test (take k xs)) e) f)

pub found_of : {X Y : Type 0} (test : X → Option Y) (xs : List X) (k : ℕ) (d : X) (y : Y) → k < length xs
    → first_of test (take k xs) ≡ None → test (get_or xs k d) ≡ Some y → first_of test xs ≡ Some y
found_of test [] k d y l e f = absurd (omega arith)
found_of test (x ∷ xs) zero d y l e f = some_first (test x) (first_of test xs) y f
found_of test (x ∷ xs) (suc k) d y l e f =
    ap (λ o. or_else o (first_of test xs)) (none_first (test x) (first_of test (take k xs)) e)
    ∙ found_of test xs k d y (le_of_suc-le-suc l) (none_second (test x) (first_of test (take k xs)) e) f

-- An answer that is found, as code finds it.
pub found_answer : {X : Type 0} (n i : ℕ) (test : ℕ → Option X) (answer : Option X) → i < n
    → first_below i test ≡ None → answer ≡ test i → is_some answer ≡ true → answer ≡ first_below n test
found_answer n i test None l none e some = cc
found_answer n i test (Some x) l none e some = sym (found_below n i test x l none (sym e))

-- Two tests, the second where the first finds nothing.
pub first_answer : {X : Type 0} (answer first second : Option X) → answer ≡ first → is_some answer ≡ true
    → answer ≡ or_else first second
first_answer None first second e some = cc
first_answer (Some x) first second e some = ap (λ o. or_else o second) e

pub second_answer : {X : Type 0} (found answer first second : Option X) → found ≡ first → is_some found ≡ false
    → answer ≡ second → answer ≡ or_else first second
second_answer None answer first second e none f = f ∙ ap (λ o. or_else o second) e
second_answer (Some x) answer first second e none f = cc

pub none_when_not_some : {X : Type 0} (o : Option X) → is_some o ≡ false → o ≡ None
none_when_not_some None e = refl
none_when_not_some (Some x) e = cc

pub found_entry : {X Y : Type 0} (test : X → Option Y) (xs : List X) (k : ℕ) (d : X) (answer : Option Y)
    → k < length xs → first_of test (take k xs) ≡ None → answer ≡ test (get_or xs k d) → is_some answer ≡ true
    → answer ≡ first_of test xs
found_entry test xs k d None l none e some = cc
found_entry test xs k d (Some y) l none e some = sym (found_of test xs k d y l none (sym e))

-- The same as a loop counts it.
pub none_next : {X Y : Type 0} (test : X → Option Y) (xs : List X) (k : ℕ) (d : X) → k < length xs
    → first_of test (take k xs) ≡ None → test (get_or xs k d) ≡ None → first_of test (take (k + 1) xs) ≡ None
none_next test xs k d l e f = rw add-one (none_so_far test xs k d l e f)

-- What is added to a list, part after part.
use Rattle.std.proofs.Common.{◌≡◌, ◌≢◌, ◌⊎◌, inl, inr, true, false, Ordering, zero, suc, [], ◌∷◌, ◌++◌, List, get_or, All, AllPairs, Contains, subst, sym, refl, arith}
use Rattle.std.specs.List.Sorted.{IsPermutation}
use Rattle.std.specs.Ordering.{is_lt, is_gt}
use Rattle.std.specs.declared.cmp.Ordering.TheVariants.{Less, Equal, Greater}
use Rattle.std.proofs.lemmas.Bool.{false≢true}
use Rattle.std.proofs.lemmas.List.Sorted.{All-permutation, Contains-permutation}
use Rattle.list_laws.specs.Laws.Permuted.{apart_permuted}
use Rattle.std.proofs.lemmas.List.Elements.{All-nil, All-append, Contains-get_or, Contains-push, Contains-append_left}
use Rattle.std.proofs.lemmas.List.Quantifiers.{all_pairs_push}
use Rattle.plain_drawing.specs.inside.Adding.{Adds, AddsOne}

-- nothing is asked for of the part
pub adds_none : {X : Type 0} (P S : X → Type 0) (xs : List X) → ((x : X) → P x → S x → ⊥) → Adds P S xs xs
adds_none P S xs none = record { kept = λ x has. has; each = λ all. all; every = λ x is in_part. absurd (none x is in_part); differ = λ differ. differ }

-- the same part, said otherwise
pub adds_same : {X : Type 0} (P S U : X → Type 0) (xs ys : List X) → Adds P S xs ys → ((x : X) → P x → U x → S x) → Adds P U xs ys
adds_same P S U xs ys adds gives = record { kept = adds.kept; each = adds.each; every = λ x is in_part. adds.every x is (gives x is in_part); differ = adds.differ }

-- one part after another
pub adds_then : {X : Type 0} (P S T U : X → Type 0) (xs ys zs : List X) → Adds P S xs ys → Adds P T ys zs → ((x : X) → P x → U x → S x ⊎ T x) → Adds P U xs zs
adds_then {X} P S T U xs ys zs first second split = record {
  kept = λ x has. second.kept x (first.kept x has);
  each = λ all. second.each (first.each all);
  every = λ x is in_part. by_part x is (split x is in_part);
  differ = λ differ. second.differ (first.differ differ);
}
  where
    by_part : (x : X) → P x → S x ⊎ T x → Contains zs x
    by_part x is (inl in_first) = second.kept x (first.every x is in_first)
    by_part x is (inr in_second) = second.every x is in_second

one_all : {X : Type 0} (P : X → Type 0) (x : X) → P x → All P (x ∷ [])
one_all P x is zero d within = is
one_all P x is (suc k) d within = absurd (omega arith)

-- one that is asked for, which is all of the part
pub adds_one : {X : Type 0} (P S : X → Type 0) (x : X) (old new : List X) → AddsOne x old new → P x → ((y : X) → P y → S y → y ≡ x) → Adds P S old new
adds_one P S x old new (inl w) is only =
    subst (λ xs. Adds P S old xs) (sym w.1)
    (record { kept = λ y has. has; each = λ all. all; every = λ y y_is in_part. subst (Contains old) (sym (only y y_is in_part)) w.0; differ = λ differ. differ })
adds_one {X} P S x old new (inr w) is only =
    subst (λ xs. Adds P S old xs) (sym w.1)
    (record {
      kept = λ y has. Contains-append_left old (x ∷ []) y has;
      each = λ all. All-append P old (x ∷ []) all (one_all P x is);
      every = λ y y_is in_part. subst (Contains (old ++ x ∷ [])) (sym (only y y_is in_part)) (Contains-push old x);
      differ = λ differ. all_pairs_push (λ (a b : X). a ≢ b) old x differ (λ k d within same. w.0 (subst (Contains old) same (Contains-get_or old k d within)));
    })

before : (o : Ordering) → is_gt o ≡ false → (o ≡ Equal → ⊥) → is_lt o ≡ true
before Less _ _ = refl
before Equal _ ne = absurd (ne refl)
before Greater low _ = absurd (false≢true (sym low))

-- All that is asked for, sorted, where no two of it are alike.
pub arranged : {X : Type 0} (P S : X → Type 0) (R : X → X → Ordering) → ((x y : X) → P x → P y → R x y ≡ Equal → x ≡ y) → (all sorted : List X) → Adds P S [] all → ((x : X) → P x → S x)
    → IsPermutation all sorted → AllPairs (λ (a b : X). is_gt (R a b) ≡ false) sorted → All P sorted × ((x : X) → P x → Contains sorted x) × AllPairs (λ (a b : X). is_lt (R a b) ≡ true) sorted
arranged {X} P S R tied all sorted adds whole moved rising = (each, λ x is. Contains-permutation all sorted x moved (adds.every x is (whole x is)), in_order)
  where
    each : All P sorted
    each = All-permutation P all sorted moved (adds.each (All-nil P))

    none : AllPairs (λ (a b : X). a ≢ b) []
    none i j d less within = absurd (omega arith)

    differ : AllPairs (λ (a b : X). a ≢ b) sorted
    differ = apart_permuted (λ (a b : X). a ≢ b) (λ x y ne same. ne (sym same)) all sorted moved (adds.differ none)

    in_order : AllPairs (λ (a b : X). is_lt (R a b) ≡ true) sorted
    in_order i j d less within =
        before (R (get_or sorted i d) (get_or sorted j d)) (rising i j d less within)
        (λ equal. differ i j d less within (tied (get_or sorted i d) (get_or sorted j d) (each i d (omega arith)) (each j d within) equal))

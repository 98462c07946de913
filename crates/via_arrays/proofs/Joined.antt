-- One more pair of a stack, and the first that is not joined.
use Rattle.std.proofs.Common.{◌≡◌, ℕ, zero, suc, refl, ◌+◌, ◌-◌, ◌<◌, ◌≤◌, ◌⊎◌, inl, inr, List, [], ◌∷◌, ◌++◌, length, slice_get, Some, length-append, subst, sym, ◌∙◌, Result, MatchResult, arith}
use Rattle.std.specs.Result.{IsErrAnd}
use Rattle.std.specs.declared.result.Result.TheVariants.{Ok, Err}
use Rattle.std.proofs.lemmas.Bool.{cases_lt}
use Rattle.std.proofs.lemmas.Option.{slice_get_within, slice_get_cases}
use Rattle.geom_rect.specs.declared.rect.Rect.{Rect}
use Rattle.lef_tech.specs.declared.tech.Tech.{Tech}
use Rattle.via_arrays.specs.declared.parts.CutArray.{CutArray}
use Rattle.via_arrays.specs.declared.error.StackError.{StackError}
use Rattle.via_arrays.specs.declared.error.StackError.TheVariants.{NoRule, OffGrid, NoCutFits, NoResistance, Want}
use Rattle.via_arrays.specs.Pairs.{IsPair, IsPairRefused}
use Rattle.via_arrays.specs.Stacks.{IsJoined, IsLowestRefused, IsStackRefused}
use Rattle.via_arrays.specs.inside.Stacks.{ArePairs}

slice_get_left : {X : Type 0} (xs ys : List X) (k : ℕ) → k < length xs → slice_get (xs ++ ys) k ≡ slice_get xs k
slice_get_left [] ys k h = absurd (omega arith)
slice_get_left (x ∷ xs) ys zero h = refl
slice_get_left (x ∷ xs) ys (suc k) h = slice_get_left xs ys k (omega arith)

slice_get_last : {X : Type 0} (xs : List X) (x y : X) (k : ℕ) → length xs ≡ k → slice_get (xs ++ x ∷ []) k ≡ Some y → x ≡ y
slice_get_last [] x y zero e h = cc
slice_get_last [] x y (suc k) e h = absurd (omega arith)
slice_get_last (z ∷ xs) x y zero e h = absurd (omega arith)
slice_get_last (z ∷ xs) x y (suc k) e h = slice_get_last xs x y k (omega arith) h

-- One more pair at the end.
pub one_more : (tech : Tech) (crossing : Rect) (units max_columns max_rows from count : ℕ) (made : List CutArray) (ohms : List ℕ) (array : CutArray) (r : ℕ)
    → ArePairs tech crossing units max_columns max_rows from count made ohms → IsPair tech crossing units max_columns max_rows (from + count) array r
    → ArePairs tech crossing units max_columns max_rows from (count + 1) (made ++ array ∷ []) (ohms ++ r ∷ [])
one_more tech crossing units max_columns max_rows from count made ohms array r are pair = record {
  of_arrays = omega (arith, length-append made (array ∷ []), are.of_arrays);
  of_ohms = omega (arith, length-append ohms (r ∷ []), are.of_ohms);
  each = λ k a o in_made in_ohms. by_place k a o in_made in_ohms (cases_lt k count);
}
  where
    P : ℕ → CutArray → ℕ → Type 0
    P k a o = IsPair tech crossing units max_columns max_rows (from + k) a o

    by_place : (k : ℕ) (a : CutArray) (o : ℕ) → slice_get (made ++ array ∷ []) k ≡ Some a → slice_get (ohms ++ r ∷ []) k ≡ Some o → (k < count) ⊎ (count ≤ k) → P k a o
    by_place k a o in_made in_ohms (inl earlier) =
        are.each k a o (sym (slice_get_left made (array ∷ []) k (omega (arith, are.of_arrays))) ∙ in_made)
        (sym (slice_get_left ohms (r ∷ []) k (omega (arith, are.of_ohms))) ∙ in_ohms)
    by_place k a o in_made in_ohms (inr here) =
        let within : k < length (made ++ array ∷ []) = slice_get_within (made ++ array ∷ []) k a in_made in
        let last : k ≡ count = omega (arith, length-append made (array ∷ []), are.of_arrays) in
        let is_array : array ≡ a = slice_get_last made array a k (omega (arith, are.of_arrays)) in_made in
        let is_ohms : r ≡ o = slice_get_last ohms r o k (omega (arith, are.of_ohms)) in_ohms in
        subst (λ x. P k x o) is_array (subst (P k array) is_ohms (subst (λ n. P n array r) (sym last) pair))

-- The element at a place within a list.
pub element : {X : Type 0} (xs : List X) (k : ℕ) → k < length xs → (x : X) × (slice_get xs k ≡ Some x)
element xs k within = elim (slice_get_cases xs k).1 [ inl is ↦ (is.0, is.2) | inr past ↦ absurd (omega (arith, past.0)) ]

-- A refused pair above those that are joined.
pub refused : (tech : Tech) (crossing : Rect) (units max_columns max_rows from layer to : ℕ) (made : List CutArray) (ohms : List ℕ) (error : StackError) → from ≤ layer → layer < to
    → ArePairs tech crossing units max_columns max_rows from (layer - from) made ohms → IsPairRefused tech crossing units max_columns max_rows layer error
    → IsStackRefused tech crossing units max_columns max_rows from to error
refused tech crossing units max_columns max_rows from layer to made ohms error above below are not_joined = by_error error not_joined
  where
    joined : (k : ℕ) → from ≤ k → k < layer → IsJoined tech crossing units max_columns max_rows k
    joined k high low =
        let at : from + (k - from) ≡ k = omega arith in
        let array = element made (k - from) (omega (arith, are.of_arrays)) in
        let r = element ohms (k - from) (omega (arith, are.of_ohms)) in
        (array.0, r.0, subst (λ n. IsPair tech crossing units max_columns max_rows n array.0 r.0) at (are.each (k - from) array.0 r.0 array.1 r.1))

    lowest : (e : StackError) → IsPairRefused tech crossing units max_columns max_rows layer e → IsLowestRefused tech crossing units max_columns max_rows from to e
    lowest e is = record { layer = layer; above = above; below = below; joined = joined; refused = is }

    by_error : (e : StackError) → IsPairRefused tech crossing units max_columns max_rows layer e → IsStackRefused tech crossing units max_columns max_rows from to e
    by_error (NoRule k) is = lowest (NoRule k) is
    by_error (OffGrid k) is = lowest (OffGrid k) is
    by_error (NoCutFits k) is = lowest (NoCutFits k) is
    by_error (NoResistance k) is = lowest (NoResistance k) is
    by_error Want is = absurd is

-- An error that is passed on.
pub passed_on : {T E : Type 0} (P : T → Type 0) (Q : E → Type 0) (r : Result T E) (e : E) → IsErrAnd r (λ x. x ≡ e) → Q e → MatchResult r P Q
passed_on P Q (Ok x) e is h = absurd is
passed_on P Q (Err x) e is h = subst Q (sym is) h

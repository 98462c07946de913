-- The runs that have a cell, sorted by where they begin.
use Rattle.std.proofs.Common.{◌≡◌, ◌⊎◌, inl, inr, Bool, true, false, not, ℤ, ◌<ℤ◌, ◌≤ℤ◌, int_lt, is_lt, List, ◌++◌, get_or, All, Contains, filter, subst, refl, sym, ap, ◌∙◌, arith}
use Rattle.std.proofs.lemmas.Int.{ints, by_lt_z}
use Rattle.std.proofs.lemmas.Bool.{false≢true}
use Rattle.std.proofs.lemmas.Cmp.{int_cmp_total}
use Rattle.std.proofs.lemmas.List.Elements.{All-filter, All-contains, All-contains_itself, All-weaker, Contains-append_cases, filter_passes}
use Rattle.std.proofs.lemmas.List.Sorted.{IsPermutation-filter_both, IsPermutation-sym, Contains-permutation, All-permutation, sorted_far, ranks_by}
use Rattle.std.specs.List.Sorted.{IsPermutation, IsSortedByKey}
use Rattle.std.specs.Ordering.{int_cmp}
use Rattle.geom_rect.specs.declared.run.Run.{Run}
use Rattle.geom_rect.specs.Run.{HasCell}
use Rattle.geom_rect.specs.inside.Sweep.{Rises, AreRising}

abbrev has_some : Run → Bool
has_some run = int_lt run.from run.to

abbrev has_none : Run → Bool
has_none run = not (has_some run)

some_true : (run : Run) (t : ℤ) → HasCell run t → has_some run ≡ true
some_true run t has = let low = has.0 in let high = has.1 in sym (omega (arith, ints))

-- a run that has a cell is kept
kept_has : (runs : List Run) (run : Run) → Contains runs run → has_some run ≡ true → Contains (filter has_some runs) run
kept_has runs run among some =
    by_part (Contains-append_cases (filter has_some runs) (filter has_none runs) run
    (Contains-permutation runs (filter has_some runs ++ filter has_none runs) run (IsPermutation-filter_both has_some has_none (λ _. refl) runs) among))
  where
    by_part : Contains (filter has_some runs) run ⊎ Contains (filter has_none runs) run → Contains (filter has_some runs) run
    by_part (inl kept) = kept
    by_part (inr dropped) =
        let none : has_none run ≡ true = All-contains (λ (r : Run). has_none r ≡ true) (filter has_none runs) run (filter_passes has_none runs) dropped in
        absurd (false≢true (sym (ap not some) ∙ none))

-- and was there before
kept_was : (runs : List Run) (run : Run) → Contains (filter has_some runs) run → Contains runs run
kept_was runs run kept = All-contains (Contains runs) (filter has_some runs) run (All-filter has_some (Contains runs) runs (All-contains_itself runs)) kept

not_less : (x y : ℤ) → is_lt (int_cmp x y) ≡ false → y ≤ℤ x
not_less x y compares = by_lt_z x y (λ less. let so : int_lt x y ≡ true = sym (omega (arith, ints)) in absurd (false≢true (sym compares ∙ rw so refl))) (λ le. le)

pub Rises-sorted : (old kept new : List Run) → kept ≡ filter has_some old → IsPermutation kept new → IsSortedByKey (λ (run : Run). run.from) int_cmp new → Rises old new
Rises-sorted old kept new is_kept moved sorted = record {
  held = λ t. (λ held. (held.0, back held.0 held.1, held.2), λ held. (held.0, there held.0 t held.1 held.2, held.2));
  some = All-permutation (λ (run : Run). run.from <ℤ run.to) kept new moved all_some;
  rising = rises;
}
  where
    back : (run : Run) → Contains new run → Contains old run
    back run among = kept_was old run (subst (λ runs. Contains runs run) is_kept (Contains-permutation new kept run (IsPermutation-sym kept new moved) among))

    there : (run : Run) (t : ℤ) → Contains old run → HasCell run t → Contains new run
    there run t among has = Contains-permutation kept new run moved (subst (λ runs. Contains runs run) (sym is_kept) (kept_has old run among (some_true run t has)))

    all_some : All (λ (run : Run). run.from <ℤ run.to) kept
    all_some = subst (All (λ (run : Run). run.from <ℤ run.to)) (sym is_kept) (All-weaker (λ (run : Run). has_some run ≡ true) (λ (run : Run). run.from <ℤ run.to) (λ run some. omega (arith, ints)) (filter has_some old) (filter_passes has_some old))

    rises : AreRising new
    rises i j d less below =
        let later_not_less : is_lt (int_cmp (get_or new j d).from (get_or new i d).from) ≡ false =
        sorted_far (λ (a b : Run). is_lt (int_cmp a.from b.from)) (ranks_by int_cmp_total (λ (run : Run). run.from)) new sorted i j d (omega arith) below in
        not_less (get_or new j d).from (get_or new i d).from later_not_less

-- Cells added at the end of separate runs: in a run of their own, or in the last run where they follow on it.
use Rattle.std.proofs.Common.{◌≡◌, ℕ, ◌+◌, ◌-◌, ◌<◌, ◌≤◌, ◌⊎◌, inl, inr, ℤ, ◌<ℤ◌, ◌≤ℤ◌, List, [], ◌∷◌, ◌++◌, length, get_or, set, take, All, subst, sym, ap, ◌∙◌, arith}
use Rattle.std.proofs.lemmas.List.{set_at, length-take-le}
use Rattle.std.proofs.lemmas.Int.{ints, by_lt_z}
use Rattle.std.proofs.lemmas.Bool.{cases_lt}
use Rattle.std.proofs.lemmas.List.Elements.{All-push, All-weaker}
use Rattle.geom_rect.specs.declared.run.Run.{Run}
use Rattle.geom_rect.specs.Run.{HasCell, IsHeld}
use Rattle.geom_rect.specs.inside.Sweep.{AreSeparate, EndBy, AddsCells}
use Rattle.geom_rect.proofs.AtEnd.{All-front, All-last, AllPairs-front, AllPairs-last, AllPairs-push, IsHeld-push, front_and_last}

abbrev HasSome : Run → Type 0
HasSome run = run.from <ℤ run.to

abbrev IsApart : Run → Run → Type 0
IsApart a b = a.to <ℤ b.from

abbrev EndsBy : ℤ → Run → Type 0
EndsBy at run = run.to ≤ℤ at

-- one more run at the end of separate ones
separate_push : (runs : List Run) (last : Run) → AreSeparate runs → HasSome last → All (λ run. IsApart run last) runs → AreSeparate (runs ++ last ∷ [])
separate_push runs last separate some apart = record {
  some = All-push HasSome runs last separate.some some;
  apart = AllPairs-push IsApart runs last separate.apart apart;
}

separate_front : (runs : List Run) (last : Run) → AreSeparate (runs ++ last ∷ []) → AreSeparate runs
separate_front runs last separate = record {
  some = All-front HasSome runs last separate.some;
  apart = AllPairs-front IsApart runs last separate.apart;
}

-- in a run of their own
pub AddsCells-push : (runs : List Run) (from to : ℤ) → AreSeparate runs → EndBy from runs → All (λ run. run.to <ℤ from) runs → from <ℤ to → AddsCells runs from to (runs ++ record { from = from; to = to } ∷ [])
AddsCells-push runs from to separate ended apart some = record {
  held = λ t. IsHeld-push runs (record { from = from; to = to }) t;
  separate = separate_push runs (record { from = from; to = to }) separate some apart;
  ends = λ at from_below to_below. All-push (EndsBy at) runs (record { from = from; to = to }) (All-weaker (EndsBy from) (EndsBy at) (λ run h. omega (arith, ints)) runs ended) to_below;
}

-- in the last run, which ends where they begin
pub AddsCells-join : (runs : List Run) (last : Run) (from to : ℤ) → AreSeparate (runs ++ last ∷ []) → EndBy from (runs ++ last ∷ []) → last.to ≡ from → from <ℤ to
    → AddsCells (runs ++ last ∷ []) from to (runs ++ record { from = last.from; to = to } ∷ [])
AddsCells-join runs last from to separate ended touches some = record {
  held = λ t. (split t, joined t);
  separate = separate_push runs new (separate_front runs last separate) new_some (AllPairs-last IsApart runs last separate.apart);
  ends = λ at from_below to_below. All-push (EndsBy at) runs new (All-weaker (EndsBy from) (EndsBy at) (λ run h. omega (arith, ints)) runs (All-front (EndsBy from) runs last ended)) to_below;
}
  where
    new : Run
    new = record { from = last.from; to = to }

    last_some : last.from <ℤ last.to
    last_some = All-last HasSome runs last separate.some

    new_some : last.from <ℤ to
    new_some = let h = last_some in omega (arith, ints)

    split_last : (t : ℤ) → HasCell new t → IsHeld (runs ++ last ∷ []) t ⊎ ((from ≤ℤ t) × (t <ℤ to))
    split_last t has =
        let low = has.0 in let high = has.1 in
        by_lt_z t from (λ before. inl ((IsHeld-push runs last t).1 (inr (low, omega (arith, ints))))) (λ after. inr (after, high))

    split_cases : (t : ℤ) → IsHeld runs t ⊎ HasCell new t → IsHeld (runs ++ last ∷ []) t ⊎ ((from ≤ℤ t) × (t <ℤ to))
    split_cases t (inl held) = inl ((IsHeld-push runs last t).1 (inl held))
    split_cases t (inr has) = split_last t has

    split : (t : ℤ) → IsHeld (runs ++ new ∷ []) t → IsHeld (runs ++ last ∷ []) t ⊎ ((from ≤ℤ t) × (t <ℤ to))
    split t held = split_cases t ((IsHeld-push runs new t).0 held)

    joined_cases : (t : ℤ) → IsHeld runs t ⊎ HasCell last t → IsHeld (runs ++ new ∷ []) t
    joined_cases t (inl held) = (IsHeld-push runs new t).1 (inl held)
    joined_cases t (inr has) = let low = has.0 in let high = has.1 in (IsHeld-push runs new t).1 (inr (low, omega (arith, ints)))

    joined : (t : ℤ) → IsHeld (runs ++ last ∷ []) t ⊎ ((from ≤ℤ t) × (t <ℤ to)) → IsHeld (runs ++ new ∷ []) t
    joined t (inl held) = joined_cases t ((IsHeld-push runs last t).0 held)
    joined t (inr has) = let low = has.0 in let high = has.1 in let h = last_some in (IsHeld-push runs new t).1 (inr (omega (arith, ints), high))

-- the same, with the last run at its place
pub AddsCells-join_at : (runs : List Run) (n : ℕ) (last : Run) (from to : ℤ) → AreSeparate runs → EndBy from runs → n ≡ length runs → 0 < n → last ≡ get_or runs (n - 1) last → last.to ≡ from → from <ℤ to
    → AddsCells runs from to (set runs (n - 1) (record { from = last.from; to = to }))
AddsCells-join_at runs n last from to separate ended long some is touches rises =
    let front = take (n - 1) runs in
    let new : Run = record { from = last.from; to = to } in
    let parts : runs ≡ front ++ last ∷ [] = front_and_last runs last (omega arith) ∙ ap (λ k. take (k - 1) runs ++ get_or runs (k - 1) last ∷ []) (sym long) ∙ ap (λ (run : Run). front ++ run ∷ []) (sym is) in
    let Joins : List Run → Type 0 = λ all. AreSeparate all → EndBy from all → AddsCells all from to (set all (n - 1) new) in
    let front_long : length front ≡ n - 1 = length-take-le (n - 1) runs (omega arith) in
    subst Joins (sym parts)
    (λ all_separate all_ended. subst (λ all. AddsCells (front ++ last ∷ []) from to all) (sym (set_at front last [] new (n - 1) front_long)) (AddsCells-join front last from to all_separate all_ended touches rises))
    separate ended

below_or_at : (a b : ℤ) → a ≤ℤ b → (a ≡ b → ⊥) → a <ℤ b
below_or_at a b le ne = by_lt_z a b (λ less. less) (λ ge. absurd (ne (omega (arith, ints))))

-- where the last run does not end at `from`, all runs end before it
pub all_apart : (runs : List Run) (n : ℕ) (from : ℤ) → AreSeparate runs → EndBy from runs → n ≡ length runs → ((k : ℕ) (d : Run) → k + 1 ≡ n → (get_or runs k d).to ≡ from → ⊥) → All (λ run. run.to <ℤ from) runs
all_apart runs n from separate ended long not_touching k d below = by_place (cases_lt (k + 1) n)
  where
    by_place : (k + 1 < n) ⊎ (n ≤ k + 1) → (get_or runs k d).to <ℤ from
    by_place (inl earlier) =
        let apart : (get_or runs k d).to <ℤ (get_or runs (k + 1) d).from = separate.apart k (k + 1) d (omega arith) (omega arith) in
        let some : (get_or runs (k + 1) d).from <ℤ (get_or runs (k + 1) d).to = separate.some (k + 1) d (omega arith) in
        let ends : (get_or runs (k + 1) d).to ≤ℤ from = ended (k + 1) d (omega arith) in
        omega (arith, ints)
    by_place (inr last) =
        let ends : (get_or runs k d).to ≤ℤ from = ended k d below in
        below_or_at (get_or runs k d).to from ends (not_touching k d (omega arith))

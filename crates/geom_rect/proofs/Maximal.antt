-- Separate runs that hold exactly the cells with a property are its maximal runs, and no other list is.
use Rattle.std.proofs.Common.{◌≡◌, ℕ, ◌<◌, ◌≤◌, ◌↔◌, ◌⊎◌, inl, inr, ℤ, pos, ◌-ℤ◌, ◌<ℤ◌, ◌≤ℤ◌, List, length, get_or, subst, sym, ap, ◌∙◌, arith}
use Rattle.std.proofs.lemmas.Bool.{cases_lt}
use Rattle.std.proofs.lemmas.Int.{ints}
use Rattle.std.proofs.lemmas.List.{get_or_default}
use Rattle.std.proofs.lemmas.List.Elements.{Contains-get_or}
use Rattle.geom_rect.specs.declared.run.Run.{Run}
use Rattle.geom_rect.specs.Run.{HasCell, IsHeld, IsOpen, AreMaximalRuns}
use Rattle.geom_rect.specs.inside.Sweep.{AreSeparate}

-- a cell beside a run is held by none
beside_is_free : (runs : List Run) (k : ℕ) (d : Run) (t : ℤ) → AreSeparate runs → k < length runs
    → ((get_or runs k d).from -ℤ pos 1) ≤ℤ t → t ≤ℤ (get_or runs k d).to → (HasCell (get_or runs k d) t → ⊥) → IsHeld runs t → ⊥
beside_is_free runs k d t separate within low high not_in held = by_place (cases_lt held.1.0 k) (cases_lt k held.1.0)
  where
    other : get_or runs held.1.0 d ≡ held.0
    other = get_or_default runs held.1.0 d held.0 held.1.1 ∙ held.1.2

    by_place : (held.1.0 < k) ⊎ (k ≤ held.1.0) → (k < held.1.0) ⊎ (held.1.0 ≤ k) → ⊥
    by_place (inl earlier) _ =
        let apart : held.0.to <ℤ (get_or runs k d).from = subst (λ (r : Run). r.to <ℤ (get_or runs k d).from) other (separate.apart held.1.0 k d earlier within) in
        let has = held.2.1 in absurd (omega (arith, ints))
    by_place (inr _) (inl later) =
        let apart : (get_or runs k d).to <ℤ held.0.from = subst (λ (r : Run). (get_or runs k d).to <ℤ r.from) other (separate.apart k held.1.0 d later held.1.1) in
        let has = held.2.0 in absurd (omega (arith, ints))
    by_place (inr not_before) (inr not_after) =
        let place : held.1.0 ≡ k = omega arith in
        not_in (subst (λ (r : Run). HasCell r t) (sym other ∙ ap (λ n. get_or runs n d) place) held.2)

pub AreMaximalRuns-separate : (P : ℤ → Type 0) (runs : List Run) → AreSeparate runs → ((t : ℤ) → IsHeld runs t ↔ P t) → AreMaximalRuns P runs
AreMaximalRuns-separate P runs separate exact = record {
  maximal = λ k d within.
      let run = get_or runs k d in
      let some : run.from <ℤ run.to = separate.some k d within in
      record {
        some = some;
        each = λ t has. (exact t).0 (run, Contains-get_or runs k d within, has);
        before = λ p. beside_is_free runs k d (run.from -ℤ pos 1) separate within (omega (arith, ints)) (omega (arith, ints)) (λ has. let low = has.0 in absurd (omega (arith, ints))) ((exact (run.from -ℤ pos 1)).1 p);
        after = λ p. beside_is_free runs k d run.to separate within (omega (arith, ints)) (omega (arith, ints)) (λ has. let high = has.1 in absurd (omega (arith, ints))) ((exact run.to).1 p);
      };
  every = λ t p. (exact t).1 p;
  rising = λ i j d less within.
      let apart : (get_or runs i d).to <ℤ (get_or runs j d).from = separate.apart i j d less within in
      let some : (get_or runs i d).from <ℤ (get_or runs i d).to = separate.some i d (omega arith) in
      omega (arith, ints);
}

-- maximal runs of the same cells
pub AreMaximalRuns-same : (P Q : ℤ → Type 0) → ((t : ℤ) → P t ↔ Q t) → (runs : List Run) → AreMaximalRuns P runs → AreMaximalRuns Q runs
AreMaximalRuns-same P Q same runs are = record {
  maximal = λ k d within.
      let is = are.maximal k d within in
      record {
        some = is.some;
        each = λ t has. (same t).0 (is.each t has);
        before = λ q. is.before ((same ((get_or runs k d).from -ℤ pos 1)).1 q);
        after = λ q. is.after ((same (get_or runs k d).to).1 q);
      };
  every = λ t q. are.every t ((same t).1 q);
  rising = are.rising;
}

-- lists that hold the same cells leave the same cells open
pub IsOpen-same : (covered blocked other_covered other_blocked : List Run) → ((t : ℤ) → IsHeld covered t ↔ IsHeld other_covered t) → ((t : ℤ) → IsHeld blocked t ↔ IsHeld other_blocked t)
    → (t : ℤ) → IsOpen covered blocked t ↔ IsOpen other_covered other_blocked t
IsOpen-same covered blocked other_covered other_blocked same_covered same_blocked t = (
  λ is_open. ((same_covered t).0 is_open.0, λ held. is_open.1 ((same_blocked t).1 held)),
  λ is_open. ((same_covered t).1 is_open.0, λ held. is_open.1 ((same_blocked t).0 held)),
)

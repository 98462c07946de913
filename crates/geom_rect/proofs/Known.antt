-- The steps of the sweep: what is known of the answer below one cell gives what is known below the next.
use Rattle.std.proofs.Common.{◌≡◌, ℕ, ◌<◌, ◌≤◌, ◌+◌, ◌↔◌, ◌⊎◌, inl, inr, ℤ, ◌<ℤ◌, ◌≤ℤ◌, List, [], length, get_or, subst, sym, ap, ◌∙◌, arith}
use Rattle.std.specs.Int.{int_max}
use Rattle.std.specs.List.{AllWithin}
use Rattle.std.proofs.lemmas.Bool.{cases_lt}
use Rattle.std.proofs.lemmas.Int.{ints, clamps, by_lt_z}
use Rattle.std.proofs.lemmas.List.{get_or_default}
use Rattle.std.proofs.lemmas.List.Elements.{All-contains}
use Rattle.geom_rect.specs.declared.run.Run.{Run}
use Rattle.geom_rect.specs.Run.{IsHeld, IsOpen}
use Rattle.geom_rect.specs.inside.Sweep.{HaveCells, AreRising, EndBy, AddsCells, IsSettled}

-- no run of the list has a cell from `at` on
pub not_held_from : (runs : List Run) (at t : ℤ) → EndBy at runs → IsHeld runs t → t <ℤ at
not_held_from runs at t ends held =
    let low = held.2.0 in let high = held.2.1 in
    let end : held.0.to ≤ℤ at = All-contains (λ (run : Run). run.to ≤ℤ at) runs held.0 ends held.1 in
    omega (arith, ints)

-- a run that has a cell from `at` on is none of the first n, which end there
place_of : (runs : List Run) (n : ℕ) (at t : ℤ) → AllWithin (λ (run : Run). run.to ≤ℤ at) runs 0 n → at ≤ℤ t → (held : IsHeld runs t) → n ≤ held.1.0
place_of runs n at t ended from held = by_place (cases_lt held.1.0 n)
  where
    by_place : (held.1.0 < n) ⊎ (n ≤ held.1.0) → n ≤ held.1.0
    by_place (inl early) =
        let end : held.0.to ≤ℤ at = subst (λ (run : Run). run.to ≤ℤ at) held.1.2 (ended held.1.0 held.0 (omega arith) early) in
        let high = held.2.1 in
        absurd (omega (arith, ints))
    by_place (inr late) = late

-- where the runs rise, the n-th one begins no later than a run that has a cell from `at` on
begins_by : (runs : List Run) (n : ℕ) (d : Run) (at t : ℤ) → AreRising runs → AllWithin (λ (run : Run). run.to ≤ℤ at) runs 0 n → at ≤ℤ t → (held : IsHeld runs t) → (get_or runs n d).from ≤ℤ held.0.from
begins_by runs n d at t rising ended from held =
    subst (λ (run : Run). (get_or runs n d).from ≤ℤ run.from) (is d) (by_place (cases_lt n held.1.0) (place_of runs n at t ended from held))
  where
    is : (e : Run) → get_or runs held.1.0 e ≡ held.0
    is e = get_or_default runs held.1.0 e held.0 held.1.1 ∙ held.1.2

    by_place : (n < held.1.0) ⊎ (held.1.0 ≤ n) → n ≤ held.1.0 → (get_or runs n d).from ≤ℤ (get_or runs held.1.0 d).from
    by_place (inl later) late = rising n held.1.0 d later held.1.1
    by_place (inr same) late =
        let place : n ≡ held.1.0 = omega arith in
        let equal : (get_or runs n d).from ≡ (get_or runs held.1.0 d).from = ap (λ k. (get_or runs k d).from) place in
        omega (arith, ints)

-- from a step: the cells from `from` up to below `end` are all that is open from `at` up to below `next`
known_more : (covered blocked answer more : List Run) (at from end next : ℤ)
    → ((t : ℤ) → t <ℤ at → IsHeld answer t ↔ IsOpen covered blocked t)
    → EndBy at answer
    → ((t : ℤ) → IsHeld more t ↔ (IsHeld answer t ⊎ ((from ≤ℤ t) × (t <ℤ end))))
    → ((t : ℤ) → from ≤ℤ t → t <ℤ end → IsOpen covered blocked t)
    → ((t : ℤ) → at ≤ℤ t → t <ℤ next → IsOpen covered blocked t → (from ≤ℤ t) × (t <ℤ end))
    → (t : ℤ) → t <ℤ next → IsHeld more t ↔ IsOpen covered blocked t
known_more covered blocked answer more at from end next known ends held opens closed t below = (λ h. there ((held t).0 h), back)
  where
    there : IsHeld answer t ⊎ ((from ≤ℤ t) × (t <ℤ end)) → IsOpen covered blocked t
    there (inl before) = (known t (not_held_from answer at t ends before)).0 before
    there (inr added) = opens t added.0 added.1

    back : IsOpen covered blocked t → IsHeld more t
    back is_open =
        by_lt_z t at (λ early. (held t).1 (inl ((known t early).1 is_open))) (λ late. (held t).1 (inr (closed t late below is_open)))

abbrev EndsBy : ℤ → Run → Type 0
EndsBy at run = run.to ≤ℤ at

ends_later : (runs : List Run) (n : ℕ) (at next : ℤ) → at ≤ℤ next → AllWithin (EndsBy at) runs 0 n → AllWithin (EndsBy next) runs 0 n
ends_later runs n at next later ended k d low high = let end : (get_or runs k d).to ≤ℤ at = ended k d low high in omega (arith, ints)

-- one more run that ends there
ends_more : (runs : List Run) (n : ℕ) (at next : ℤ) → at ≤ℤ next → AllWithin (EndsBy at) runs 0 n → ((d : Run) → (get_or runs n d).to ≤ℤ next) → AllWithin (EndsBy next) runs 0 (n + 1)
ends_more runs n at next later ended here k d low high = by_place (cases_lt k n)
  where
    by_place : (k < n) ⊎ (n ≤ k) → (get_or runs k d).to ≤ℤ next
    by_place (inl early) = ends_later runs n at next later ended k d low early
    by_place (inr late) = let place : n ≡ k = omega arith in subst (λ i. (get_or runs i d).to ≤ℤ next) place (here d)

-- two lists of runs that have a cell and rise, and how far the sweep has come in them
pub record IsAt (covered blocked : List Run) (at : ℤ) (i j : ℕ) (answer : List Run) : Type 0 where
  pub covered_rises : AreRising covered
  pub blocked_rises : AreRising blocked
  pub covered_some : HaveCells covered
  pub blocked_some : HaveCells blocked
  pub settled : IsSettled covered blocked at i j answer
  pub in_covered : i < length covered

-- the cells of the next covered run from `at` on that stand before all blocked runs that are left are open
open_between : (covered blocked answer : List Run) (at from end : ℤ) (i j : ℕ) (run : Run) → IsAt covered blocked at i j answer → run ≡ get_or covered i run → from ≡ int_max at run.from → end ≤ℤ run.to
    → ((k : ℕ) (d : Run) → j ≤ k → k < length blocked → end ≤ℤ (get_or blocked k d).from)
    → (t : ℤ) → from ≤ℤ t → t <ℤ end → IsOpen covered blocked t
open_between covered blocked answer at from end i j run is_at is is_from within later t low high = (is_covered, not_blocked)
  where
    is_covered : IsHeld covered t
    is_covered = (run, (i, is_at.in_covered, sym is), (omega (arith, ints, clamps), omega (arith, ints)))

    by_place : (held : IsHeld blocked t) → (held.1.0 < j) ⊎ (j ≤ held.1.0) → ⊥
    by_place held (inl early) =
        let end_of : held.0.to ≤ℤ at = subst (EndsBy at) held.1.2 (is_at.settled.blocked_ended held.1.0 held.0 (omega arith) early) in
        let has = held.2.1 in omega (arith, ints, clamps)
    by_place held (inr late) =
        let begins : end ≤ℤ held.0.from = subst (λ (block : Run). end ≤ℤ block.from) held.1.2 (later held.1.0 held.0 late held.1.1) in
        let has = held.2.0 in omega (arith, ints, clamps)

    not_blocked : IsHeld blocked t → ⊥
    not_blocked held = by_place held (cases_lt held.1.0 j)

-- and none from `at` on is open before them
open_from : (covered blocked answer : List Run) (at from : ℤ) (i j : ℕ) (run : Run) → IsAt covered blocked at i j answer → run ≡ get_or covered i run → from ≡ int_max at run.from
    → (t : ℤ) → at ≤ℤ t → IsOpen covered blocked t → from ≤ℤ t
open_from covered blocked answer at from i j run is_at is is_from t late is_open =
    let held = is_open.0 in
    let begins : (get_or covered i run).from ≤ℤ held.0.from = begins_by covered i run at t is_at.covered_rises is_at.settled.covered_ended late held in
    let same : run.from ≡ (get_or covered i run).from = ap (λ (r : Run). r.from) is in
    let low = held.2.0 in
    omega (arith, ints, clamps)

-- a blocked run that begins before the end of the covered one
pub settled_block : (covered blocked answer more : List Run) (at from next : ℤ) (i j : ℕ) (run block : Run) → IsAt covered blocked at i j answer → j < length blocked
    → run ≡ get_or covered i run → block ≡ get_or blocked j block → block.from <ℤ run.to → from ≡ int_max at run.from → next ≡ int_max from block.to
    → AddsCells answer from block.from more → IsSettled covered blocked next i (j + 1) more
settled_block covered blocked answer more at from next i j run block is_at in_blocked is_run is_block early is_from is_next appends = record {
  known = known_more covered blocked answer more at from block.from next is_at.settled.known is_at.settled.ends appends.held
      (open_between covered blocked answer at from block.from i j run is_at is_run is_from (omega (arith, ints)) later)
      (λ t low high is_open. (from_there t low is_open, to_there t low high is_open));
  separate = appends.separate;
  ends = appends.ends next (omega (arith, ints, clamps)) block_ends;
  covered_ended = ends_later covered i at next (omega (arith, ints, clamps)) is_at.settled.covered_ended;
  blocked_ended = ends_more blocked j at next (omega (arith, ints, clamps)) is_at.settled.blocked_ended here;
}
  where
    at_block : (d : Run) → get_or blocked j d ≡ block
    at_block d = get_or_default blocked j d block in_blocked ∙ sym is_block

    later : (k : ℕ) (d : Run) → j ≤ k → k < length blocked → block.from ≤ℤ (get_or blocked k d).from
    later k d low high = by_place (cases_lt j k)
      where
        by_place : (j < k) ⊎ (k ≤ j) → block.from ≤ℤ (get_or blocked k d).from
        by_place (inl after) = subst (λ (b : Run). b.from ≤ℤ (get_or blocked k d).from) (at_block d) (is_at.blocked_rises j k d after high)
        by_place (inr same) =
            let place : j ≡ k = omega arith in
            let equal : (get_or blocked k d).from ≡ block.from = ap (λ n. (get_or blocked n d).from) (sym place) ∙ ap (λ (b : Run). b.from) (at_block d) in
            omega (arith, ints)

    block_ends : block.from ≤ℤ next
    block_ends =
        let some : block.from <ℤ block.to = subst (λ (b : Run). b.from <ℤ b.to) (at_block block) (is_at.blocked_some j block in_blocked) in
        omega (arith, ints, clamps)

    from_there : (t : ℤ) → at ≤ℤ t → IsOpen covered blocked t → from ≤ℤ t
    from_there = open_from covered blocked answer at from i j run is_at is_run is_from

    to_there : (t : ℤ) → at ≤ℤ t → t <ℤ next → IsOpen covered blocked t → t <ℤ block.from
    to_there t low high is_open =
        let start : from ≤ℤ t = from_there t low is_open in
        by_lt_z t block.from (λ before. before)
        (λ within. absurd (is_open.1 (block, (j, in_blocked, sym is_block), (within, omega (arith, ints, clamps)))))

    here : (d : Run) → (get_or blocked j d).to ≤ℤ next
    here d = let same : (get_or blocked j d).to ≡ block.to = ap (λ (b : Run). b.to) (at_block d) in omega (arith, ints, clamps)

-- no blocked run that is left begins before the end of the covered one
pub settled_run : (covered blocked answer more : List Run) (at from next : ℤ) (i j : ℕ) (run : Run) → IsAt covered blocked at i j answer
    → run ≡ get_or covered i run → ((d : Run) → j < length blocked → run.to ≤ℤ (get_or blocked j d).from) → from ≡ int_max at run.from → next ≡ int_max from run.to
    → AddsCells answer from run.to more → IsSettled covered blocked next (i + 1) j more
settled_run covered blocked answer more at from next i j run is_at is_run late is_from is_next appends = record {
  known = known_more covered blocked answer more at from run.to next is_at.settled.known is_at.settled.ends appends.held
      (open_between covered blocked answer at from run.to i j run is_at is_run is_from (omega (arith, ints)) later)
      (λ t low high is_open. (from_there t low is_open, to_there t low high is_open));
  separate = appends.separate;
  ends = appends.ends next (omega (arith, ints, clamps)) (omega (arith, ints, clamps));
  covered_ended = ends_more covered i at next (omega (arith, ints, clamps)) is_at.settled.covered_ended here;
  blocked_ended = ends_later blocked j at next (omega (arith, ints, clamps)) is_at.settled.blocked_ended;
}
  where
    later : (k : ℕ) (d : Run) → j ≤ k → k < length blocked → run.to ≤ℤ (get_or blocked k d).from
    later k d low high = by_place (cases_lt j k)
      where
        by_place : (j < k) ⊎ (k ≤ j) → run.to ≤ℤ (get_or blocked k d).from
        by_place (inl after) =
            let first : run.to ≤ℤ (get_or blocked j d).from = late d (omega arith) in
            let rises : (get_or blocked j d).from ≤ℤ (get_or blocked k d).from = is_at.blocked_rises j k d after high in
            omega (arith, ints)
        by_place (inr same) =
            let place : j ≡ k = omega arith in subst (λ n. run.to ≤ℤ (get_or blocked n d).from) place (late d (omega arith))

    from_there : (t : ℤ) → at ≤ℤ t → IsOpen covered blocked t → from ≤ℤ t
    from_there = open_from covered blocked answer at from i j run is_at is_run is_from

    to_there : (t : ℤ) → at ≤ℤ t → t <ℤ next → IsOpen covered blocked t → t <ℤ run.to
    to_there t low high is_open = let start : from ≤ℤ t = from_there t low is_open in omega (arith, ints, clamps)

    here : (d : Run) → (get_or covered i d).to ≤ℤ next
    here d =
        let same : (get_or covered i d).to ≡ run.to = ap (λ (r : Run). r.to) (get_or_default covered i d run is_at.in_covered ∙ sym is_run) in
        omega (arith, ints, clamps)

-- before the first step nothing is answered, and no cell before the first covered run is open
pub settled_start : (covered blocked : List Run) (first : Run) → AreRising covered → 0 < length covered → first ≡ get_or covered 0 first → IsSettled covered blocked first.from 0 0 []
settled_start covered blocked first rising some is_first = record {
  known = λ t below. (λ held. absurd (omega (arith, held.1.1)), λ is_open. not_open t below is_open.0);
  separate = record { some = λ k d below. absurd (omega arith); apart = λ i j d less below. absurd (omega arith) };
  ends = λ k d below. absurd (omega arith);
  covered_ended = λ k d low high. absurd (omega arith);
  blocked_ended = λ k d low high. absurd (omega arith);
}
  where
    not_open : (t : ℤ) → t <ℤ first.from → IsHeld covered t → IsHeld [] t
    not_open t below held =
        let begins : first.from ≤ℤ held.0.from = first_begins (cases_lt 0 held.1.0) in
        let low = held.2.0 in absurd (omega (arith, ints))
      where
        at_first : (d : Run) → get_or covered 0 d ≡ first
        at_first d = get_or_default covered 0 d first some ∙ sym is_first

        first_begins : (0 < held.1.0) ⊎ (held.1.0 ≤ 0) → first.from ≤ℤ held.0.from
        first_begins (inl later) =
            subst (λ (r : Run). r.from ≤ℤ held.0.from) (at_first held.0) (subst (λ (r : Run). (get_or covered 0 held.0).from ≤ℤ r.from) held.1.2 (rising 0 held.1.0 held.0 later held.1.1))
        first_begins (inr same) =
            let place : held.1.0 ≡ 0 = omega arith in
            let equal : held.0.from ≡ first.from = ap (λ (r : Run). r.from) (sym held.1.2 ∙ ap (λ n. get_or covered n held.0) place ∙ at_first held.0) in
            omega (arith, ints)

-- after the last covered run the whole answer is known
pub known_everywhere : (covered blocked answer : List Run) (at : ℤ) (i j : ℕ) → IsSettled covered blocked at i j answer → length covered ≤ i
    → (t : ℤ) → IsHeld answer t ↔ IsOpen covered blocked t
known_everywhere covered blocked answer at i j settled all t = (
  λ held. (settled.known t (not_held_from answer at t settled.ends held)).0 held,
  λ is_open. by_lt_z t at (λ early. (settled.known t early).1 is_open)
      (λ late. let place : i ≤ is_open.0.1.0 = place_of covered i at t settled.covered_ended late is_open.0 in absurd (omega (arith, is_open.0.1.1))),
)

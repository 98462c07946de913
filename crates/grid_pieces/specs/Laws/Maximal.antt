-- Maximal runs lie apart; two that share a cell are one.
use Rattle.std.proofs.Common.{◌≡◌, ◌↔◌, ℤ, pos, ◌-ℤ◌, ◌<ℤ◌, ◌≤ℤ◌, List, get_or, Contains, subst, sym, arith}
use Rattle.std.proofs.lemmas.Int.{ints, by_lt_z}
use Rattle.std.proofs.lemmas.List.Elements.{All-contains}
use Rattle.geom_rect.specs.declared.run.Run.{Run}
use Rattle.geom_rect.specs.Run.{HasCell, IsMaximal, AreMaximalRuns}
use Rattle.grid_pieces.specs.inside.Cutting.{AreSeparate}

-- one that begins behind the other begins with a cell between
apart : (P : ℤ → Type 0) (a b : Run) → IsMaximal P a → IsMaximal P b → a.from <ℤ b.from → a.to <ℤ b.from
apart P a b a_is b_is less =
    let b_some = b_is.some in
    by_lt_z a.to b.from (λ before. before)
    (λ not_before. absurd (by_lt_z b.from a.to
    (λ inside. b_is.before (a_is.each (b.from -ℤ pos 1) (omega (arith, ints), omega (arith, ints))))
    (λ beside. a_is.after (b_is.each a.to (omega (arith, ints), omega (arith, ints))))))

pub separate : (P : ℤ → Type 0) (runs : List Run) → AreMaximalRuns P runs → AreSeparate runs
separate P runs are = record {
  some = λ k d within. (are.maximal k d within).some;
  apart = λ i j d less within. apart P (get_or runs i d) (get_or runs j d) (are.maximal i d (omega arith)) (are.maximal j d within) (are.rising i j d less within);
}

-- of two that share a cell, each begins in the other
begins_in : (P : ℤ → Type 0) (a b : Run) (t : ℤ) → IsMaximal P a → IsMaximal P b → HasCell a t → HasCell b t → b.from ≤ℤ a.from
begins_in P a b t a_is b_is in_a in_b =
    let a_low = in_a.0 in let a_high = in_a.1 in let b_low = in_b.0 in let b_high = in_b.1 in
    by_lt_z a.from b.from (λ less. absurd (b_is.before (a_is.each (b.from -ℤ pos 1) (omega (arith, ints), omega (arith, ints))))) (λ not_less. not_less)

ends_in : (P : ℤ → Type 0) (a b : Run) (t : ℤ) → IsMaximal P a → IsMaximal P b → HasCell a t → HasCell b t → a.to ≤ℤ b.to
ends_in P a b t a_is b_is in_a in_b =
    let a_low = in_a.0 in let a_high = in_a.1 in let b_low = in_b.0 in let b_high = in_b.1 in
    by_lt_z b.to a.to (λ less. absurd (b_is.after (a_is.each b.to (omega (arith, ints), less)))) (λ not_less. not_less)

pub same_run : (P : ℤ → Type 0) (a b : Run) (t : ℤ) → IsMaximal P a → IsMaximal P b → HasCell a t → HasCell b t → a ≡ b
same_run P a b t a_is b_is in_a in_b =
    let low = begins_in P a b t a_is b_is in_a in_b in
    let low' = begins_in P b a t b_is a_is in_b in_a in
    let high = ends_in P a b t a_is b_is in_a in_b in
    let high' = ends_in P b a t b_is a_is in_b in_a in
    let from : a.from ≡ b.from = omega (arith, ints) in
    let to : a.to ≡ b.to = omega (arith, ints) in
    λ i. record { from = from i; to = to i }

-- each maximal run is in the list
pub maximal_among : (P : ℤ → Type 0) (runs : List Run) (run : Run) → AreMaximalRuns P runs → IsMaximal P run → Contains runs run
maximal_among P runs run are is =
    let some = is.some in
    let first : HasCell run run.from = (omega (arith, ints), some) in
    let held = are.every run.from (is.each run.from first) in
    let same : run ≡ held.0 = same_run P run held.0 run.from is (All-contains (IsMaximal P) runs held.0 are.maximal held.1) first held.2 in
    subst (Contains runs) (sym same) held.1

-- maximal runs of the same cells
pub AreMaximalRuns-same : (P Q : ℤ → Type 0) → ((t : ℤ) → P t ↔ Q t) → (runs : List Run) → AreMaximalRuns P runs → AreMaximalRuns Q runs
AreMaximalRuns-same P Q same runs are = record {
  maximal = λ k d within.
      let is = are.maximal k d within in
      record {
        some = is.some;
        each = λ t has. (same t).0 (is.each t has);
        before = λ q. is.before ((same ((get_or runs k d).from -ℤ pos 1)).1 q);
        after = λ q. is.after ((same (get_or runs k d).to).1 q);
      };
  every = λ t q. are.every t ((same t).1 q);
  rising = are.rising;
}

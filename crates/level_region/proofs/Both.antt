-- Numbers written over the cells of two spans at once are written over those of one, and then over those of the other.
use Rattle.std.proofs.Common.{◌≡◌, ℕ, [], ◌+◌, ◌-◌, ◌<◌, ◌≤◌, Bool, true, false, nat_le, cond, ℤ, List, ◌++◌, length, take, drop, refl, sym, ap, ◌∙◌, arith, ◌⊎◌, inl, inr}
use Rattle.std.proofs.lemmas.Bool.{cases_lt, leb-true, leb-false}
use Rattle.std.proofs.lemmas.List.{append-nil, nil_from_length, length-append, length-take}
use Rattle.level_region.specs.declared.span.Span.{Span}
use Rattle.level_region.specs.Block.{Block, end_of, written_over, both_written, AreApart}
use Rattle.level_region.proofs.Hull.{AreOrdered, ordered}
use Rattle.level_region.proofs.Written.{joined, both_joined, length-joined, joined-nil, cells-written_over, low_then_high, high_then_low, both_at_once}

same_block : (one other : Block) → one.cells ≡ other.cells → one.used ≡ other.used → one ≡ other
same_block one other cells used = λ i. record { cells = cells i; used = used i }

-- Nothing written changes nothing.
written_over-nil : (block : Block) (start : ℕ) → start ≤ length block.cells → written_over block start [] ≡ block
written_over-nil block start within =
    same_block (written_over block start []) block (cells-written_over block start [] (omega arith) ∙ joined-nil block.cells start) refl

-- Two writes, as cells.
cells-twice : (block : Block) (first : ℕ) (x : List ℤ) (second : ℕ) (y : List ℤ) → first + length x ≤ length block.cells → second + length y ≤ length block.cells
    → (written_over (written_over block first x) second y).cells ≡ joined (joined block.cells first x) second y
cells-twice block first x second y first_fits second_fits =
    let once = cells-written_over block first x first_fits in
    let long = length-joined block.cells first x first_fits in
    cells-written_over (written_over block first x) second y (omega (arith, ap length once)) ∙ ap (λ cells. joined cells second y) once

-- The three ways to write x over the first span and y over the second.
record SameWrites (block : Block) (low high : Span) (x y : List ℤ) : Type 0 where
  upward : written_over block low.start (x ++ (take (high.start - end_of low) (drop (end_of low) block.cells) ++ y)) ≡ written_over (written_over block low.start x) high.start y
  downward : written_over block low.start (x ++ (take (high.start - end_of low) (drop (end_of low) block.cells) ++ y)) ≡ written_over (written_over block high.start y) low.start x

same_writes : (block : Block) (low high : Span) (x y : List ℤ) → AreOrdered low high → end_of low ≤ length block.cells → end_of high ≤ length block.cells → length x ≡ low.len → length y ≡ high.len → SameWrites block low high x y
same_writes block low high x y are low_ends high_ends x_long y_long = by_place (cases_lt high.start (end_of low)) are.apart
  where
    by_place : (high.start < end_of low) ⊎ (end_of low ≤ high.start) → (end_of low ≤ high.start) ⊎ (high.len ≡ 0) → SameWrites block low high x y
    by_place (inr behind) _ =
        let cells = block.cells in
        let gap = high.start - end_of low in
        let end : low.start + length x ≡ end_of low = omega arith in
        let place : low.start + length x + gap ≡ high.start = omega arith in
        let fits : low.start + length x + gap + length y ≤ length cells = omega arith in
        let all : List ℤ = x ++ (take gap (drop (end_of low) cells) ++ y) in
        let is_all : x ++ (take gap (drop (low.start + length x) cells) ++ y) ≡ all = ap (λ n. x ++ (take gap (drop n cells) ++ y)) end in
        let all_long : low.start + length all ≤ length cells =
        omega (arith, length-append x (take gap (drop (end_of low) cells) ++ y), length-append (take gap (drop (end_of low) cells)) y, length-take gap (drop (end_of low) cells)) in
        let at_once : (written_over block low.start all).cells ≡ both_joined cells low.start x gap y =
        cells-written_over block low.start all all_long ∙ ap (joined cells low.start) (sym is_all) ∙ both_at_once cells low.start x gap y fits in
        record {
          upward = same_block _ _ (at_once ∙ sym (low_then_high cells low.start x gap y fits) ∙ ap (λ n. joined (joined cells low.start x) n y) place
              ∙ sym (cells-twice block low.start x high.start y (omega arith) (omega arith))) refl;
          downward = same_block _ _ (at_once ∙ sym (high_then_low cells low.start x gap y fits) ∙ ap (λ n. joined (joined cells n y) low.start x) place
              ∙ sym (cells-twice block high.start y low.start x (omega arith) (omega arith))) refl;
        }
    by_place (inl inside) (inl behind) = absurd (omega arith)
    by_place (inl inside) (inr none) =
        let y_nil : y ≡ [] = nil_from_length y (omega arith) in
        let no_gap : high.start - end_of low ≡ 0 = omega arith in
        let all_is : x ++ (take (high.start - end_of low) (drop (end_of low) block.cells) ++ y) ≡ x =
        ap (λ n. x ++ (take n (drop (end_of low) block.cells) ++ y)) no_gap ∙ ap (λ zs. x ++ zs) y_nil ∙ append-nil x in
        let once = cells-written_over block low.start x (omega arith) in
        let long = length-joined block.cells low.start x (omega arith) in
        let written : Block = written_over block low.start x in
        record {
          upward = ap (written_over block low.start) all_is ∙ sym (ap (written_over written high.start) y_nil ∙ written_over-nil written high.start (omega (arith, ap length once)));
          downward = ap (written_over block low.start) all_is ∙ sym (ap (λ zs. written_over (written_over block high.start zs) low.start x) y_nil
              ∙ ap (λ b. written_over b low.start x) (written_over-nil block high.start (omega arith)));
        }

pub both_written-is : (block : Block) (a b : Span) (of_a of_b : List ℤ) → end_of a ≤ length block.cells → end_of b ≤ length block.cells → AreApart a b → length of_a ≡ a.len → length of_b ≡ b.len
    → both_written block a b of_a of_b ≡ written_over (written_over block a.start of_a) b.start of_b
both_written-is block a b of_a of_b a_ends b_ends apart a_long b_long = by_order (nat_le a.start b.start) refl
  where
    between : Span → Span → List ℤ
    between low high = take (high.start - end_of low) (drop (end_of low) block.cells)

    -- `both_written` at what the test says.
    at : Bool → Block
    at first =
        let low : Span = cond first a b in
        let high : Span = cond first b a in
        written_over block low.start (cond first (of_a ++ (take (high.start - end_of low) (drop (end_of low) block.cells) ++ of_b)) (of_b ++ (take (high.start - end_of low) (drop (end_of low) block.cells) ++ of_a)))

    by_order : (first : Bool) → nat_le a.start b.start ≡ first → at first ≡ written_over (written_over block a.start of_a) b.start of_b
    by_order true is = (same_writes block a b of_a of_b (ordered a b (leb-true a.start b.start is) apart) a_ends b_ends a_long b_long).upward
    by_order false is = (same_writes block b a of_b of_a (ordered b a (order (leb-false a.start b.start is)) (λ k in_b in_a. apart k in_a in_b)) b_ends a_ends b_long a_long).downward
      where
        order : b.start < a.start → b.start ≤ a.start
        order less = omega arith

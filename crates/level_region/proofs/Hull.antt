-- Two spans that do not overlap, and the cells from the first one of both to the last one.
use Rattle.std.proofs.Common.{◌≡◌, ℕ, ◌+◌, ◌-◌, ◌<◌, ◌≤◌, Bool, true, false, nat_le, cond, ℤ, List, ◌++◌, length, take, drop, refl, sym, ap, ◌∙◌, arith, ◌⊎◌, inl, inr}
use Rattle.std.proofs.lemmas.Bool.{cases_lt, leb-true, leb-false}
use Rattle.std.proofs.lemmas.List.{length-take-le, length-drop, take-take, drop-take, drop-drop}
use Rattle.level_region.specs.declared.span.Span.{Span}
use Rattle.level_region.specs.Block.{Block, end_of, AreApart, part_of, front_of, back_of, gap_of, hull_of, written_over, both_written}

-- The span that begins first, the other one, and what is known of them.
pub record AreOrdered (low high : Span) : Type 0 where
  pub order : low.start ≤ high.start
  -- They overlap in no cell: the second begins behind the first, or has no cell.
  pub apart : (end_of low ≤ high.start) ⊎ (high.len ≡ 0)

pub ordered : (low high : Span) → low.start ≤ high.start → AreApart low high → AreOrdered low high
ordered low high order apart = record { order = order; apart = by_end (cases_lt high.start (end_of low)) (cases_lt 0 high.len) }
  where
    by_end : (high.start < end_of low) ⊎ (end_of low ≤ high.start) → (0 < high.len) ⊎ (high.len ≤ 0) → (end_of low ≤ high.start) ⊎ (high.len ≡ 0)
    by_end (inr behind) _ = inl behind
    by_end (inl inside) (inl some) = absurd (apart high.start (order, inside) (omega arith, omega arith))
    by_end (inl inside) (inr none) = inr (omega arith)

pub are_ordered : (a b : Span) → AreApart a b → AreOrdered (front_of a b) (back_of a b)
are_ordered a b apart = by_order (nat_le a.start b.start) refl
  where
    by_order : (first : Bool) → nat_le a.start b.start ≡ first → AreOrdered (cond first a b) (cond first b a)
    by_order true is = ordered a b (leb-true a.start b.start is) apart
    by_order false is = ordered b a (omega (arith, leb-false a.start b.start is)) (λ k in_b in_a. apart k in_a in_b)

-- Both spans end within the first n cells, and so does the hull.
hull_ends : (low high : Span) (n : ℕ) → AreOrdered low high → end_of low ≤ n → end_of high ≤ n → low.start + (low.len + ((high.start - end_of low) + high.len)) ≤ n
hull_ends low high n are low_ends high_ends = by_apart are.apart
  where
    by_apart : (end_of low ≤ high.start) ⊎ (high.len ≡ 0) → low.start + (low.len + ((high.start - end_of low) + high.len)) ≤ n
    by_apart (inl behind) = omega arith
    by_apart (inr none) = hull_short (cases_lt high.start (end_of low))
      where
        hull_short : (high.start < end_of low) ⊎ (end_of low ≤ high.start) → low.start + (low.len + ((high.start - end_of low) + high.len)) ≤ n
        hull_short (inl inside) = omega arith
        hull_short (inr behind) = omega arith

pub first_ends : (a b : Span) (n : ℕ) → end_of a ≤ n → end_of b ≤ n → (end_of (front_of a b) ≤ n) × (end_of (back_of a b) ≤ n)
first_ends a b n a_ends b_ends = by_order (nat_le a.start b.start)
  where
    by_order : (first : Bool) → (end_of (cond first a b) ≤ n) × (end_of (cond first b a) ≤ n)
    by_order true = (a_ends, b_ends)
    by_order false = (b_ends, a_ends)

pub hull_within : (a b : Span) (n : ℕ) → AreApart a b → end_of a ≤ n → end_of b ≤ n → end_of (hull_of a b) ≤ n
hull_within a b n apart a_ends b_ends =
    let ends = first_ends a b n a_ends b_ends in
    hull_ends (front_of a b) (back_of a b) n (are_ordered a b apart) ends.0 ends.1

pub length-part_of : (block : Block) (span : Span) → end_of span ≤ length block.cells → length (part_of block span) ≡ span.len
length-part_of block span within = length-take-le span.len (drop span.start block.cells) (omega (arith, length-drop span.start block.cells))

-- What is cut out of the hull: the first span's cells, what lies between, and the second span's.
pub take-hull : (cells : List ℤ) (low : Span) (rest : ℕ) → take low.len (take (low.len + rest) (drop low.start cells)) ≡ take low.len (drop low.start cells)
take-hull cells low rest = take-take low.len (low.len + rest) (drop low.start cells) (omega arith)

drop-hull : (cells : List ℤ) (low : Span) (rest : ℕ) → drop low.len (take (low.len + rest) (drop low.start cells)) ≡ take rest (drop (end_of low) cells)
drop-hull cells low rest = drop-take low.len rest (drop low.start cells) ∙ ap (take rest) (drop-drop low.len low.start cells)

pub gap-hull : (cells : List ℤ) (low : Span) (gap len : ℕ) → take gap (drop low.len (take (low.len + (gap + len)) (drop low.start cells))) ≡ take gap (drop (end_of low) cells)
gap-hull cells low gap len = ap (take gap) (drop-hull cells low (gap + len)) ∙ take-take gap (gap + len) (drop (end_of low) cells) (omega arith)

second-hull : (cells : List ℤ) (low high : Span) → AreOrdered low high
    → drop (high.start - end_of low) (drop low.len (take (low.len + ((high.start - end_of low) + high.len)) (drop low.start cells))) ≡ take high.len (drop high.start cells)
second-hull cells low high are =
    ap (drop gap) (drop-hull cells low (gap + high.len)) ∙ drop-take gap high.len (drop (end_of low) cells) ∙ ap (take high.len) (drop-drop gap (end_of low) cells) ∙ by_apart are.apart
  where
    gap : ℕ
    gap = high.start - end_of low

    by_apart : (end_of low ≤ high.start) ⊎ (high.len ≡ 0) → take high.len (drop (end_of low + gap) cells) ≡ take high.len (drop high.start cells)
    by_apart (inl behind) = let place : end_of low + (high.start - end_of low) ≡ high.start = omega arith in ap (λ n. take high.len (drop n cells)) place
    by_apart (inr none) = ap (λ n. take n (drop (end_of low + gap) cells)) none ∙ sym (ap (λ n. take n (drop high.start cells)) none)

pub first_part : (block : Block) (a b : Span) → take (front_of a b).len (part_of block (hull_of a b)) ≡ part_of block (front_of a b)
first_part block a b = take-hull block.cells (front_of a b) (gap_of a b + (back_of a b).len)

pub second_part : (block : Block) (a b : Span) → AreApart a b → drop (gap_of a b) (drop (front_of a b).len (part_of block (hull_of a b))) ≡ part_of block (back_of a b)
second_part block a b apart = second-hull block.cells (front_of a b) (back_of a b) (are_ordered a b apart)

pub gap_part : (block : Block) (a b : Span) → take (gap_of a b) (drop (front_of a b).len (part_of block (hull_of a b))) ≡ take (gap_of a b) (drop (end_of (front_of a b)) block.cells)
gap_part block a b = gap-hull block.cells (front_of a b) (gap_of a b) (back_of a b).len

-- The parts that the hull was split into.
pub record AreParts (block : Block) (a b : Span) (low between high : List ℤ) : Type 0 where
  pub low_is : low ≡ part_of block (front_of a b)
  pub between_is : between ≡ take (gap_of a b) (drop (end_of (front_of a b)) block.cells)
  pub high_is : high ≡ part_of block (back_of a b)

pub are_parts : (block : Block) (a b : Span) (all low others between high : List ℤ) → AreApart a b
    → all ≡ part_of block (hull_of a b) → low ≡ take (front_of a b).len all → others ≡ drop (front_of a b).len all → between ≡ take (gap_of a b) others → high ≡ drop (gap_of a b) others
    → AreParts block a b low between high
are_parts block a b all low others between high apart all_is low_is others_is between_is high_is =
    let rest_is : others ≡ drop (front_of a b).len (part_of block (hull_of a b)) = others_is ∙ ap (drop (front_of a b).len) all_is in
    record {
      low_is = low_is ∙ ap (take (front_of a b).len) all_is ∙ first_part block a b;
      between_is = between_is ∙ ap (take (gap_of a b)) rest_is ∙ gap_part block a b;
      high_is = high_is ∙ ap (drop (gap_of a b)) rest_is ∙ second_part block a b apart;
    }

-- Where the first span begins first, the parts in their order are theirs.
pub record InOrder (block : Block) (a b : Span) (low between high : List ℤ) : Type 0 where
  pub of_a : low ≡ part_of block a
  pub of_b : high ≡ part_of block b
  pub writes : (λ (u w : List ℤ). written_over block (hull_of a b).start (u ++ (between ++ w))) ≡ both_written block a b

pub in_order : (block : Block) (a b : Span) (low between high : List ℤ) → AreParts block a b low between high → nat_le a.start b.start ≡ true → InOrder block a b low between high
in_order block a b low between high are first = record {
  of_a = are.low_is ∙ ap (λ t. part_of block (cond t a b)) first;
  of_b = are.high_is ∙ ap (λ t. part_of block (cond t b a)) first;
  writes = λ i u w. (ap (λ gap. written_over block (hull_of a b).start (u ++ (gap ++ w))) are.between_is
      ∙ ap (λ t. written_over block (hull_of a b).start (cond t (u ++ (take (gap_of a b) (drop (end_of (front_of a b)) block.cells) ++ w)) (w ++ (take (gap_of a b) (drop (end_of (front_of a b)) block.cells) ++ u)))) (sym first)) i;
}

-- Where it does not, they are turned round.
pub record Turned (block : Block) (a b : Span) (low between high : List ℤ) : Type 0 where
  pub of_a : high ≡ part_of block a
  pub of_b : low ≡ part_of block b
  pub writes : (λ (w u : List ℤ). written_over block (hull_of a b).start (u ++ (between ++ w))) ≡ both_written block a b

pub turned : (block : Block) (a b : Span) (low between high : List ℤ) → AreParts block a b low between high → nat_le a.start b.start ≡ false → Turned block a b low between high
turned block a b low between high are second = record {
  of_a = are.high_is ∙ ap (λ t. part_of block (cond t b a)) second;
  of_b = are.low_is ∙ ap (λ t. part_of block (cond t a b)) second;
  writes = λ i w u. (ap (λ gap. written_over block (hull_of a b).start (u ++ (gap ++ w))) are.between_is
      ∙ ap (λ t. written_over block (hull_of a b).start (cond t (w ++ (take (gap_of a b) (drop (end_of (front_of a b)) block.cells) ++ u)) (u ++ (take (gap_of a b) (drop (end_of (front_of a b)) block.cells) ++ w)))) (sym second)) i;
}

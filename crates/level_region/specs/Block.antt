-- What a contract sees of a region, and of a span of its cells.
use Rattle.std.specs.Prelude.{ℕ, ◌+◌, ◌-◌, ◌<◌, ◌≤◌, nat_le, if◌then◌else◌, ℤ, List, ◌++◌, length, take, drop}
use Rattle.level_region.specs.declared.span.Span.{Span}

-- The cells of a region, and how many of them are used, from the first on.
pub record Block : Type 0 where
  pub cells : List ℤ
  pub used : ℕ

-- How many cells are not used yet.
abbrev pub left_of : Block → ℕ
left_of block = length block.cells - block.used

-- The number of the cell after the span's last one.
abbrev pub end_of : Span → ℕ
end_of span = span.start + span.len

-- Cell k is one of the span's.
abbrev pub SpansCell : Span → ℕ → Type 0
SpansCell span k = (span.start ≤ k) × (k < end_of span)

-- The span ends within the used cells.
abbrev pub IsWithin : Span → Block → Type 0
IsWithin span block = end_of span ≤ block.used

-- The spans do not overlap: no cell is in both.
abbrev pub AreApart : Span → Span → Type 0
AreApart a b = (k : ℕ) → SpansCell a k → SpansCell b k → ⊥

-- The numbers in the span's cells.
abbrev pub part_of : Block → Span → List ℤ
part_of block span = take span.len (drop span.start block.cells)

-- The region with numbers written over its cells from cell `start` on. No cell comes or goes, and every other cell
-- stays as it is.
abbrev pub written_over : Block → ℕ → List ℤ → Block
written_over block start numbers = record {
  cells = take (length block.cells) (take start block.cells ++ (numbers ++ drop (start + length numbers) block.cells));
  used = block.used;
}

-- Of two spans, the one that begins first, and the other one.
abbrev pub front_of : Span → Span → Span
front_of a b = if nat_le a.start b.start then a else b

abbrev pub back_of : Span → Span → Span
back_of a b = if nat_le a.start b.start then b else a

-- How many cells lie between the two.
abbrev pub gap_of : Span → Span → ℕ
gap_of a b = (back_of a b).start - end_of (front_of a b)

-- From the first cell of the two to the last one.
abbrev pub hull_of : Span → Span → Span
hull_of a b = record { start = (front_of a b).start; len = (front_of a b).len + (gap_of a b + (back_of a b).len) }

-- The region with numbers written over the cells of two spans: from the first cell of both on, one span's numbers, what
-- lies between, and the other's.
abbrev pub both_written : Block → Span → Span → List ℤ → List ℤ → Block
both_written block a b of_a of_b =
    let between = take (gap_of a b) (drop (end_of (front_of a b)) block.cells) in
    written_over block (hull_of a b).start
    (if nat_le a.start b.start then of_a ++ (between ++ of_b) else (of_b ++ (between ++ of_a)))

-- Cuts in a row along an axis (LEF/DEF 5.8 Language Reference, VIARULE GENERATE: RECT, SPACING and ENCLOSURE).
use Rattle.std.specs.Prelude.{ℕ, ◌+◌, ◌-◌, ◌*◌, ◌/◌, ◌<◌, ◌≤◌, nat_lt, if◌then◌else◌, ℤ, pos, ◌+ℤ◌, ◌-ℤ◌, ◌≤ℤ◌}

-- The length of a row of n cuts, from the lower edge of the first to the upper edge of the last.
abbrev pub row_length : ℕ → ℕ → ℕ → ℕ
row_length cut pitch n = cut + (n - 1) * pitch

-- A row of n cuts stands in the middle of an extent. How far above the extent's lower end its cut of number k begins, in
-- half units, since the middle may lie between two units.
abbrev pub half_units_to : ℕ → ℕ → ℕ → ℕ → ℕ → ℤ
half_units_to extent cut pitch n k = (pos extent -ℤ pos (row_length cut pitch n)) +ℤ pos (2 * (k * pitch))

-- The cut with the enclosure on both of its sides lies within the extent, ends included.
pub record IsEnclosed (extent cut pitch enclosure n k : ℕ) : Type 0 where
  pub low : pos (2 * enclosure) ≤ℤ half_units_to extent cut pitch n k
  pub high : (half_units_to extent cut pitch n k +ℤ pos (2 * (cut + enclosure))) ≤ℤ pos (2 * extent)

-- A row of n cuts fits: each of them is enclosed.
abbrev pub Fit : ℕ → ℕ → ℕ → ℕ → ℕ → Type 0
Fit extent cut pitch enclosure n = (k : ℕ) → k < n → IsEnclosed extent cut pitch enclosure n k

-- n is the greatest number of cuts that fit, up to a limit.
pub record IsMost (limit extent cut pitch enclosure n : ℕ) : Type 0 where
  pub upto : n ≤ limit
  pub fit : Fit extent cut pitch enclosure n
  pub most : (m : ℕ) → n < m → m ≤ limit → ¬ Fit extent cut pitch enclosure m

-- How many cuts one division gives: the pitches in what a cut and its enclosures leave of the extent, and one more;
-- none where they leave less than nothing.
abbrev pub count_by_division : ℕ → ℕ → ℕ → ℕ → ℕ
count_by_division extent cut pitch enclosure =
    if nat_lt extent (cut + 2 * enclosure) then 0 else (extent - (cut + 2 * enclosure)) / pitch + 1

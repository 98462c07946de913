-- What stands outside a span after numbers were written over its cells.
use Rattle.std.proofs.Common.{◌≡◌, ℕ, suc, [], ◌∷◌, ◌+◌, ◌-◌, ◌<◌, ◌≤◌, ℤ, List, ◌++◌, length, get_or, take, drop, refl, sym, ap, ◌∙◌, arith, ◌⊎◌, inl, inr}
use Rattle.std.proofs.lemmas.List.{same_lists, append_assoc, get_or-take, get_or-drop, get_or_append_left, get_or-append_right, length-append, length-take, length-take-le, length-drop, take_all, take-append-drop, take-append-le, take-take, drop-append-le, drop-take, drop-drop}
use Rattle.std.proofs.lemmas.Bool.{cases_lt}
use Rattle.level_region.specs.declared.span.Span.{Span}
use Rattle.level_region.specs.Block.{Block, end_of, SpansCell, part_of, written_over, AreApart}

-- The cells after the write, which ends within them.
abbrev pub joined : List ℤ → ℕ → List ℤ → List ℤ
joined cells start numbers = take start cells ++ (numbers ++ drop (start + length numbers) cells)

pub length-joined : (cells : List ℤ) (start : ℕ) (numbers : List ℤ) → start + length numbers ≤ length cells → length (joined cells start numbers) ≡ length cells
length-joined cells start numbers fits =
    let rest = drop (start + length numbers) cells in
    omega (arith, length-append (take start cells) (numbers ++ rest), length-append numbers rest, length-take start cells, length-drop (start + length numbers) cells)

pub cells-written_over : (block : Block) (start : ℕ) (numbers : List ℤ) → start + length numbers ≤ length block.cells → (written_over block start numbers).cells ≡ joined block.cells start numbers
cells-written_over block start numbers fits =
    let long = length-joined block.cells start numbers fits in
    take_all (length block.cells) (joined block.cells start numbers) (omega arith)

-- A cell before the write, or behind it, holds what it held.
get_or-joined : (cells : List ℤ) (start : ℕ) (numbers : List ℤ) (j : ℕ) (d : ℤ) → start + length numbers ≤ length cells → (j < start) ⊎ (start + length numbers ≤ j) → get_or (joined cells start numbers) j d ≡ get_or cells j d
get_or-joined cells start numbers j d fits (inl before) =
    get_or_append_left (take start cells) (numbers ++ drop (start + length numbers) cells) d j (omega (arith, length-take start cells))
    ∙ get_or-take start cells j d before
get_or-joined cells start numbers j d fits (inr behind) =
    let rest = drop (start + length numbers) cells in
    get_or-append_right (take start cells) (numbers ++ rest) start j d (length-take-le start cells (omega arith)) (omega arith)
    ∙ get_or-append_right numbers rest (length numbers) (j - start) d refl (omega arith)
    ∙ get_or-drop (start + length numbers) cells (j - start - length numbers) d
    ∙ ap (λ i. get_or cells i d) (omega arith)

-- A cell that the span has not lies before it or behind it.
outside : (span : Span) (k : ℕ) → (SpansCell span k → ⊥) → (k < span.start) ⊎ (end_of span ≤ k)
outside span k not_in = by_cases (cases_lt k span.start) (cases_lt k (end_of span))
  where
    by_cases : (k < span.start) ⊎ (span.start ≤ k) → (k < end_of span) ⊎ (end_of span ≤ k) → (k < span.start) ⊎ (end_of span ≤ k)
    by_cases (inl before) _ = inl before
    by_cases (inr from) (inl below) = absurd (not_in (from, below))
    by_cases (inr from) (inr behind) = inr behind

-- Two regions read the same in a span if they have as many cells, and the same in each of the span's.
same_part : (old new : List ℤ) (span : Span) → length new ≡ length old → ((k : ℕ) (d : ℤ) → SpansCell span k → get_or new k d ≡ get_or old k d) → take span.len (drop span.start new) ≡ take span.len (drop span.start old)
same_part old new span long same =
    same_lists (take span.len (drop span.start new)) (take span.len (drop span.start old))
    (omega (arith, length-take span.len (drop span.start new), length-take span.len (drop span.start old), length-drop span.start new, length-drop span.start old))
    (λ k d below.
    let within : k < span.len = omega (arith, length-take span.len (drop span.start new)) in
    get_or-take span.len (drop span.start new) k d within
    ∙ get_or-drop span.start new k d
    ∙ same (span.start + k) d (omega arith, omega arith)
    ∙ sym (get_or-drop span.start old k d)
    ∙ sym (get_or-take span.len (drop span.start old) k d within))

pub part_of-others : (block : Block) (span other : Span) (numbers : List ℤ) → end_of span ≤ length block.cells → length numbers ≡ span.len → AreApart span other
    → part_of (written_over block span.start numbers) other ≡ part_of block other
part_of-others block span other numbers fits long apart =
    let room : span.start + length numbers ≤ length block.cells = omega arith in
    let same_length = length-joined block.cells span.start numbers room in
    let is_joined : (written_over block span.start numbers).cells ≡ joined block.cells span.start numbers =
    take_all (length block.cells) (joined block.cells span.start numbers) (omega arith) in
    rw is_joined (same_part block.cells (joined block.cells span.start numbers) other same_length
    (λ k d in_other. get_or-joined block.cells span.start numbers k d room (by_length k (outside span k (λ in_span. apart k in_span in_other)))))
  where
    by_length : (k : ℕ) → (k < span.start) ⊎ (end_of span ≤ k) → (k < span.start) ⊎ (span.start + length numbers ≤ k)
    by_length k (inl before) = inl before
    by_length k (inr behind) = inr (omega arith)

-- Parts of two lists that are joined.
take-append-past : (m : ℕ) (front back : List ℤ) → take (length front + m) (front ++ back) ≡ front ++ take m back
take-append-past m [] back = ap (λ n. take n back) (omega arith)
take-append-past m (z ∷ front) back =
    let step : length (z ∷ front) + m ≡ suc (length front + m) = omega arith in
    ap (λ n. take n (z ∷ front ++ back)) step ∙ ap (λ zs. z ∷ zs) (take-append-past m front back)

drop-append-past : (m : ℕ) (front back : List ℤ) → drop (length front + m) (front ++ back) ≡ drop m back
drop-append-past m [] back = ap (λ n. drop n back) (omega arith)
drop-append-past m (z ∷ front) back =
    let step : length (z ∷ front) + m ≡ suc (length front + m) = omega arith in
    ap (λ n. drop n (z ∷ front ++ back)) step ∙ drop-append-past m front back

-- Nothing is written.
pub joined-nil : (cells : List ℤ) (start : ℕ) → joined cells start [] ≡ cells
joined-nil cells start = ap (λ n. take start cells ++ drop n cells) (omega arith) ∙ take-append-drop start cells

-- x is written over the cells from `low` on and y over those from `high` on, with a gap between.
abbrev pub both_joined : List ℤ → ℕ → List ℤ → ℕ → List ℤ → List ℤ
both_joined cells low x gap y = take low cells ++ (x ++ (take gap (drop (low + length x) cells) ++ (y ++ drop (low + length x + gap + length y) cells)))

-- The one after the other.
pub low_then_high : (cells : List ℤ) (low : ℕ) (x : List ℤ) (gap : ℕ) (y : List ℤ) → low + length x + gap + length y ≤ length cells
    → joined (joined cells low x) (low + length x + gap) y ≡ both_joined cells low x gap y
low_then_high cells low x gap y fits =
    let front = take low cells ++ x in
    let back = drop (low + length x) cells in
    let parts : joined cells low x ≡ front ++ back = sym (append_assoc (take low cells) x back) in
    let long : length front ≡ low + length x = omega (arith, length-append (take low cells) x, length-take low cells) in
    let at : low + length x + gap ≡ length front + gap = omega arith in
    let past : low + length x + gap + length y ≡ length front + (gap + length y) = omega arith in
    let start : take (low + length x + gap) (joined cells low x) ≡ front ++ take gap back =
    ap (take (low + length x + gap)) parts ∙ ap (λ n. take n (front ++ back)) at ∙ take-append-past gap front back in
    let end : drop (low + length x + gap + length y) (joined cells low x) ≡ drop (low + length x + gap + length y) cells =
    ap (drop (low + length x + gap + length y)) parts ∙ ap (λ n. drop n (front ++ back)) past ∙ drop-append-past (gap + length y) front back
    ∙ drop-drop (gap + length y) (low + length x) cells ∙ ap (λ n. drop n cells) (omega arith) in
    ap (λ zs. zs ++ (y ++ drop (low + length x + gap + length y) (joined cells low x))) start
    ∙ ap (λ zs. (front ++ take gap back) ++ (y ++ zs)) end
    ∙ append_assoc front (take gap back) (y ++ drop (low + length x + gap + length y) cells)
    ∙ append_assoc (take low cells) x (take gap back ++ (y ++ drop (low + length x + gap + length y) cells))

-- In the other order.
pub high_then_low : (cells : List ℤ) (low : ℕ) (x : List ℤ) (gap : ℕ) (y : List ℤ) → low + length x + gap + length y ≤ length cells
    → joined (joined cells (low + length x + gap) y) low x ≡ both_joined cells low x gap y
high_then_low cells low x gap y fits =
    let high = low + length x + gap in
    let rest = y ++ drop (high + length y) cells in
    let long : length (take high cells) ≡ high = length-take-le high cells (omega arith) in
    let start : take low (take high cells ++ rest) ≡ take low cells = take-append-le low (take high cells) rest (omega arith) ∙ take-take low high cells (omega arith) in
    let end : drop (low + length x) (take high cells ++ rest) ≡ take gap (drop (low + length x) cells) ++ rest =
    drop-append-le (low + length x) (take high cells) rest (omega arith) ∙ ap (λ zs. zs ++ rest) (drop-take (low + length x) gap cells) in
    ap (λ zs. zs ++ (x ++ drop (low + length x) (take high cells ++ rest))) start ∙ ap (λ zs. take low cells ++ (x ++ zs)) end

-- Both at once.
pub both_at_once : (cells : List ℤ) (low : ℕ) (x : List ℤ) (gap : ℕ) (y : List ℤ) → low + length x + gap + length y ≤ length cells
    → joined cells low (x ++ (take gap (drop (low + length x) cells) ++ y)) ≡ both_joined cells low x gap y
both_at_once cells low x gap y fits =
    let between = take gap (drop (low + length x) cells) in
    let long : length between ≡ gap = length-take-le gap (drop (low + length x) cells) (omega (arith, length-drop (low + length x) cells)) in
    let end : low + length (x ++ (between ++ y)) ≡ low + length x + gap + length y = omega (arith, length-append x (between ++ y), length-append between y) in
    ap (λ n. take low cells ++ ((x ++ (between ++ y)) ++ drop n cells)) end
    ∙ ap (λ zs. take low cells ++ zs) (append_assoc x (between ++ y) (drop (low + length x + gap + length y) cells)
    ∙ ap (λ zs. x ++ zs) (append_assoc between y (drop (low + length x + gap + length y) cells)))

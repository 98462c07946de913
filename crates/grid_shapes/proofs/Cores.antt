-- The core of rows lies where they lie.
use Rattle.std.proofs.Common.{◌≢◌, ℕ, ℤ, pos, neg_ℤ, ◌+ℤ◌, ◌≤ℤ◌, negsuc, List, [], ◌∷◌, All, get_or, refl, arith}
use Rattle.std.proofs.lemmas.Int.{ints}
use Rattle.std.proofs.lemmas.List.Elements.{All-head}
use Rattle.geom_rect.specs.declared.rect.Rect.{Rect}
use Rattle.rail_layout.specs.declared.row.RowBox.{RowBox}
use Rattle.grid_cores.specs.Core.{IsCore}
use Rattle.grid_cores.specs.Owner.{LiesIn}
use Rattle.grid_plan.specs.Keeping.{IsNear, LiesNear}

pub low_of : (most : ℕ) (z : ℤ) → IsNear most z → pos 0 ≤ℤ (z +ℤ pos most)
low_of most (pos n) near = omega (arith, ints)
low_of most (negsuc n) near = omega (arith, ints)

pub high_of : (most : ℕ) (z : ℤ) → IsNear most z → z ≤ℤ pos most
high_of most (pos n) near = omega (arith, ints)
high_of most (negsuc n) near = omega (arith, ints)

pub near_from : (most : ℕ) (z : ℤ) → pos 0 ≤ℤ (z +ℤ pos most) → z ≤ℤ pos most → IsNear most z
near_from most (pos n) low high = omega (arith, ints)
near_from most (negsuc n) low high = omega (arith, ints)

near_box : (most : ℕ) (rect : Rect) → LiesNear most rect → LiesIn rect (record { x1 = neg_ℤ (pos most); y1 = neg_ℤ (pos most); x2 = pos most; y2 = pos most })
near_box most rect near =
    let x1 = low_of most rect.x1 near.x1 in
    let y1 = low_of most rect.y1 near.y1 in
    let x2 = high_of most rect.x2 near.x2 in
    let y2 = high_of most rect.y2 near.y2 in
    (omega (arith, ints), omega (arith, ints), omega (arith, ints), omega (arith, ints))

pub core_near : (most : ℕ) (rows : List RowBox) (core : Rect) → rows ≢ [] → All (λ (row : RowBox). LiesNear most row.rect) rows → IsCore rows core
    → LiesNear most core
core_near most [] core some near is = absurd (some refl)
core_near most (row ∷ rows) core some near is =
    let first = All-head (λ (r : RowBox). LiesNear most r.rect) row rows near in
    let ordered = first.in_order in
    let held = All-head (λ (r : RowBox). LiesIn r.rect core) row rows is.holds in
    let inside = is.smallest (record { x1 = neg_ℤ (pos most); y1 = neg_ℤ (pos most); x2 = pos most; y2 = pos most })
    (λ k d within. near_box most (get_or (row ∷ rows) k d).rect (near k d within)) in
    let x : core.x1 ≤ℤ core.x2 = omega (arith, ints) in
    let y : core.y1 ≤ℤ core.y2 = omega (arith, ints) in
    record {
      in_order = (x, y);
      x1 = near_from most core.x1 (omega (arith, ints)) (omega (arith, ints));
      y1 = near_from most core.y1 (omega (arith, ints)) (omega (arith, ints));
      x2 = near_from most core.x2 (omega (arith, ints)) (omega (arith, ints));
      y2 = near_from most core.y2 (omega (arith, ints)) (omega (arith, ints));
    }

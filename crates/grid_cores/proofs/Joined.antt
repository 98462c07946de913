-- The smallest rectangle that holds two.
use Rattle.std.proofs.Common.{◌≡◌, ℕ, ◌+◌, ◌<◌, ◌≤◌, ◌⊎◌, inl, inr, List, length, get_or, subst, ap, ◌∙◌, arith}
use Rattle.std.proofs.lemmas.Bool.{cases_lt}
use Rattle.std.proofs.lemmas.Int.{ints, clamps}
use Rattle.std.proofs.lemmas.List.{get_or_default}
use Rattle.geom_rect.specs.declared.rect.Rect.{Rect}
use Rattle.rail_layout.specs.declared.row.RowBox.{RowBox}
use Rattle.grid_cores.specs.Owner.{LiesIn}
use Rattle.grid_cores.specs.inside.Core.{join}

pub lies_in_itself : (a : Rect) → LiesIn a a
lies_in_itself a = (omega (arith, ints), omega (arith, ints), omega (arith, ints), omega (arith, ints))

-- What lies in the first lies in both together.
pub join_first : (a b c : Rect) → LiesIn c a → LiesIn c (join a b)
join_first a b c h =
    (omega (arith, ints, clamps), omega (arith, ints, clamps), omega (arith, ints, clamps), omega (arith, ints, clamps))

pub join_second : (a b : Rect) → LiesIn b (join a b)
join_second a b =
    (omega (arith, ints, clamps), omega (arith, ints, clamps), omega (arith, ints, clamps), omega (arith, ints, clamps))

-- What holds both holds them together.
pub join_least : (a b other : Rect) → LiesIn a other → LiesIn b other → LiesIn (join a b) other
join_least a b other h k =
    (omega (arith, ints, clamps), omega (arith, ints, clamps), omega (arith, ints, clamps), omega (arith, ints, clamps))

-- Two that lie in each other are one.
pub each_in_other : (a b : Rect) → LiesIn a b → LiesIn b a → a ≡ b
each_in_other a b h k =
    let x1 : a.x1 ≡ b.x1 = omega (arith, ints) in
    let y1 : a.y1 ≡ b.y1 = omega (arith, ints) in
    let x2 : a.x2 ≡ b.x2 = omega (arith, ints) in
    let y2 : a.y2 ≡ b.y2 = omega (arith, ints) in
    λ i. record { x1 = x1 i; y1 = y1 i; x2 = x2 i; y2 = y2 i }

-- One more row.
pub held_more : (rows : List RowBox) (i : ℕ) (d : RowBox) (core : Rect) → i < length rows
    → ((k : ℕ) (e : RowBox) → k < i → LiesIn (get_or rows k e).rect core)
    → (k : ℕ) (e : RowBox) → k < i + 1 → LiesIn (get_or rows k e).rect (join core (get_or rows i d).rect)
held_more rows i d core within held k e less = by_place (cases_lt k i)
  where
    by_place : (k < i) ⊎ (i ≤ k) → LiesIn (get_or rows k e).rect (join core (get_or rows i d).rect)
    by_place (inl before) = join_first core (get_or rows i d).rect (get_or rows k e).rect (held k e before)
    by_place (inr reached) =
        let same : i ≡ k = omega arith in
        subst (λ (row : RowBox). LiesIn row.rect (join core (get_or rows i d).rect)) (get_or_default rows i d e within ∙ ap (λ n. get_or rows n e) same) (join_second core (get_or rows i d).rect)

use Rattle.std.proofs.Common.{ℕ, ℤ, rules}
use Rattle.std.specs.Ordering.{is_lt}
use Rattle.std.specs.List.Sorted.{IsSortedBy}
use Rattle.std.proofs.lemmas.List.Sorted.{answers_always}
use Rattle.grid_pieces.specs.declared.metal.Metal.{Metal}
use Rattle.grid_pieces.specs.inside.Sweep.{metal_order}
use Rattle.grid_pieces.specs.Laws.Orders.{in_order}
use Rattle.grid_pieces.proofs.Grouped.{metal_total}
use Rattle.grid_pieces.proofs.touch.sort.Goals as goal

pub returns-clause-in_order : goal.returns-clause-in_order
returns-clause-in_order c i j d le within =
    let key : Metal → ℕ × ℤ × ℤ × ℤ × ℤ = λ (m : Metal). (m.layer, m.rect.x1, m.rect.y1, m.rect.x2, m.rect.y2) in
    let sorted : IsSortedBy (λ x y. is_lt (metal_order x y)) c.sort_unstable_by_key.new.self =
    c.sort_unstable_by_key.ensures.sorted key (answers_always _ _ _ (λ f a r f' called. search rules)) in
    in_order metal_order metal_total c.sort_unstable_by_key.new.self sorted i j d le within

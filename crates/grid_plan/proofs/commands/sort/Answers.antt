use Rattle.std.proofs.Common.{ℕ, arith, rules}
use Rattle.std.specs.Cmp.{IsTotalOrder}
use Rattle.std.specs.Ordering.{is_lt}
use Rattle.std.specs.List.Sorted.{IsSortedBy}
use Rattle.std.proofs.lemmas.Cmp.{nat_cmp_total, on_total, then_total}
use Rattle.std.proofs.lemmas.List.Sorted.{answers_always}
use Rattle.grid_pieces.specs.Laws.Orders.{in_order}
use Rattle.grid_plan.specs.Order.{place_order}
use Rattle.grid_plan.specs.declared.order.PlacedConnect.{PlacedConnect}
use Rattle.grid_plan.proofs.commands.sort.Goals as goal

connects_total : IsTotalOrder (λ (a b : PlacedConnect). place_order a.place b.place)
connects_total = then_total (on_total (λ (a : PlacedConnect). a.place.line) nat_cmp_total) (on_total (λ (a : PlacedConnect). a.place.word) nat_cmp_total)

pub returns-clause-in_order : goal.returns-clause-in_order
returns-clause-in_order c i j d less within =
    let key : PlacedConnect → ℕ × ℕ = λ (p : PlacedConnect). (p.place.line, p.place.word) in
    let sorted : IsSortedBy (λ (x y : PlacedConnect). is_lt (place_order x.place y.place)) c.sort_unstable_by_key.new.self =
    c.sort_unstable_by_key.ensures.sorted key (answers_always _ _ _ (λ f a r f' called. search rules)) in
    in_order (λ (a b : PlacedConnect). place_order a.place b.place) connects_total c.sort_unstable_by_key.new.self sorted i j d (omega arith) within

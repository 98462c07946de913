use Rattle.std.proofs.Common.{ℕ, ℤ, arith, rules}
use Rattle.std.specs.Ordering.{is_lt}
use Rattle.std.specs.List.Sorted.{IsSortedBy}
use Rattle.std.proofs.lemmas.List.Sorted.{answers_always}
use Rattle.grid_stacks.specs.declared.bar.Start.{Start}
use Rattle.grid_pieces.specs.Laws.Orders.{in_order}
use Rattle.grid_stacks.proofs.Ordered.{start_order, start_total}
use Rattle.grid_stacks.proofs.bar.sort_starts.Goals as goal

pub returns-clause-in_order : goal.returns-clause-in_order
returns-clause-in_order c i j d less within =
    let key : Start → ℤ = λ (p : Start). p.from in
    let sorted : IsSortedBy (λ x y. is_lt (start_order x y)) c.sort_unstable_by_key.new.self =
    c.sort_unstable_by_key.ensures.sorted key (answers_always _ _ _ (λ f a r f' called. search rules)) in
    in_order start_order start_total c.sort_unstable_by_key.new.self sorted i j d (omega arith) within

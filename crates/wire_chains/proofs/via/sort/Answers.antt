use Rattle.std.proofs.Common.{ℕ, ℤ, arith, rules}
use Rattle.std.specs.Ordering.{is_lt}
use Rattle.std.specs.List.Sorted.{IsSortedBy}
use Rattle.std.proofs.lemmas.List.Sorted.{answers_always}
use Rattle.wire_chains.specs.declared.via.ViaAt.{ViaAt}
use Rattle.wire_chains.specs.Chain.{via_order}
use Rattle.wire_chains.proofs.Order.{in_order}
use Rattle.wire_chains.proofs.via.sort.Goals as goal

pub returns-clause-in_order : goal.returns-clause-in_order
returns-clause-in_order c i j d less within =
    let key : ViaAt → ℕ × ℤ × ℤ × ℕ × ℕ = λ (v : ViaAt). (v.net, v.x, v.y, v.layer, v.number) in
    let sorted : IsSortedBy (λ x y. is_lt (via_order x y)) c.sort_unstable_by_key.new.self =
    c.sort_unstable_by_key.ensures.sorted key (answers_always _ _ _ (λ f a r f' called. search rules)) in
    in_order c.sort_unstable_by_key.new.self sorted i j d (omega arith) within

use Rattle.std.proofs.Common.{ℕ, ℤ, arith, rules}
use Rattle.std.specs.Ordering.{is_lt}
use Rattle.std.specs.List.Sorted.{IsSortedBy}
use Rattle.std.proofs.lemmas.List.Sorted.{answers_always}
use Rattle.grid_pieces.specs.Laws.Orders.{in_order}
use Rattle.wire_stacks.specs.declared.made.Made.{Made}
use Rattle.wire_stacks.specs.inside.Made.{made_order}
use Rattle.wire_stacks.proofs.Ordered.{made_total}
use Rattle.wire_stacks.proofs.made.sort.Goals as goal

pub returns-clause-in_order : goal.returns-clause-in_order
returns-clause-in_order c i j d less within =
    let key : Made → ℕ × ℤ × ℤ × ℕ × ℕ × ℤ × ℤ × ℤ × ℤ × ℕ = λ (m : Made). (
      m.at.net,
      m.at.x,
      m.at.y,
      m.at.stack.from,
      m.at.stack.to,
      m.at.crossing.x1,
      m.at.crossing.y1,
      m.at.crossing.x2,
      m.at.crossing.y2,
      m.number,
    ) in
    let sorted : IsSortedBy (λ x y. is_lt (made_order x y)) c.sort_unstable_by_key.new.self =
    c.sort_unstable_by_key.ensures.sorted key (answers_always _ _ _ (λ f a r f' called. search rules)) in
    in_order made_order made_total c.sort_unstable_by_key.new.self sorted i j d (omega arith) within

use Rattle.std.proofs.Common.{ℕ, ℤ, arith, rules}
use Rattle.std.specs.Ordering.{is_lt}
use Rattle.std.specs.List.Sorted.{IsSortedBy}
use Rattle.std.proofs.lemmas.List.Sorted.{answers_always}
use Rattle.grid_pieces.specs.Laws.Orders.{in_order}
use Rattle.grid_taps.specs.declared.rail.Rail.{Rail}
use Rattle.grid_taps.specs.inside.Rails.{rail_order}
use Rattle.grid_taps.proofs.RailLemmas.{rail_total}
use Rattle.grid_taps.proofs.rail.sort.Goals as goal

pub returns-clause-in_order : goal.returns-clause-in_order
returns-clause-in_order c i j d less within =
    let key : Rail → ℕ × ℤ × ℕ × ℕ = λ (r : Rail). (r.net, r.centre, r.layer, r.number) in
    let sorted : IsSortedBy (λ x y. is_lt (rail_order x y)) c.sort_unstable_by_key.new.self =
    c.sort_unstable_by_key.ensures.sorted key (answers_always _ _ _ (λ f a r f' called. search rules)) in
    in_order rail_order rail_total c.sort_unstable_by_key.new.self sorted i j d (omega arith) within

use Rattle.std.proofs.Common.{ℕ, ℤ, arith, rules}
use Rattle.std.specs.Ordering.{is_lt}
use Rattle.std.specs.List.Sorted.{IsSortedBy}
use Rattle.std.proofs.lemmas.List.Sorted.{answers_always}
use Rattle.grid_stacks.specs.declared.connect.Site.{Site}
use Rattle.grid_stacks.specs.Stacking.{site_order}
use Rattle.grid_pieces.specs.Laws.Orders.{in_order}
use Rattle.plain_drawing.proofs.Sited.{site_total}
use Rattle.plain_drawing.proofs.sites.sort.Goals as goal

pub returns-clause-in_order : goal.returns-clause-in_order
returns-clause-in_order c i j d less within =
    let key : Site → (ℕ × ℤ × ℤ × ℕ × ℕ) × (ℤ × ℤ × ℤ × ℤ) = λ (s : Site). ((s.net, s.x, s.y, s.from, s.to), (s.crossing.x1, s.crossing.y1, s.crossing.x2, s.crossing.y2)) in
    let sorted : IsSortedBy (λ x y. is_lt (site_order x y)) c.sort_unstable_by_key.new.self =
    c.sort_unstable_by_key.ensures.sorted key (answers_always _ _ _ (λ f a r f' called. search rules)) in
    in_order site_order site_total c.sort_unstable_by_key.new.self sorted i j d (omega arith) within

use Rattle.std.proofs.Common.{ℕ, ℤ, Bool, arith, rules}
use Rattle.std.specs.Ordering.{is_lt}
use Rattle.std.specs.List.Sorted.{IsSortedBy}
use Rattle.std.proofs.lemmas.List.Sorted.{answers_always}
use Rattle.grid_pieces.specs.declared.piece.Piece.{Piece}
use Rattle.grid_pieces.specs.Laws.Orders.{in_order}
use Rattle.wire_pieces.specs.Pieces.{is_upright}
use Rattle.wire_pieces.specs.inside.Centre.{reach_order}
use Rattle.wire_pieces.proofs.Orders.{reach_total}
use Rattle.wire_pieces.proofs.centre.sort.Goals as goal

pub returns-clause-in_order : goal.returns-clause-in_order
returns-clause-in_order c i j d less within =
    let key : Piece → ℕ × ℕ × Bool × ℤ × ℤ = λ (p : Piece). (p.net, p.layer, is_upright p.axis, p.centre, p.from) in
    let sorted : IsSortedBy (λ x y. is_lt (reach_order x y)) c.sort_unstable_by_key.new.self =
    c.sort_unstable_by_key.ensures.sorted key (answers_always _ _ _ (λ f a r f' called. search rules)) in
    in_order reach_order reach_total c.sort_unstable_by_key.new.self sorted i j d (omega arith) within

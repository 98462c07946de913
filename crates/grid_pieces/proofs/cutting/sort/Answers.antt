use Rattle.std.proofs.Common.{ℕ, ℤ, arith, rules}
use Rattle.std.specs.Ordering.{is_lt}
use Rattle.std.specs.List.Sorted.{IsSortedBy}
use Rattle.std.proofs.lemmas.List.Sorted.{answers_always}
use Rattle.grid_pieces.specs.declared.piece.Piece.{Piece}
use Rattle.grid_pieces.specs.Piece.{piece_order}
use Rattle.grid_pieces.specs.Laws.Orders.{in_order}
use Rattle.grid_pieces.specs.Laws.Orders.{piece_total}
use Rattle.grid_pieces.proofs.cutting.sort.Goals as goal

pub returns-clause-in_order : goal.returns-clause-in_order
returns-clause-in_order c i j d less within =
    let key : Piece → ℕ × ℕ × ℤ × ℤ × ℤ = λ (p : Piece). (p.net, p.layer, p.centre, p.from, p.width) in
    let sorted : IsSortedBy (λ x y. is_lt (piece_order x y)) c.sort_unstable_by_key.new.self =
    c.sort_unstable_by_key.ensures.sorted key (answers_always _ _ _ (λ f a r f' called. search rules)) in
    in_order piece_order piece_total c.sort_unstable_by_key.new.self sorted i j d (omega arith) within

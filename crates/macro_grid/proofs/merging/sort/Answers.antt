use Rattle.std.proofs.Common.{ℕ, ℤ, arith, rules}
use Rattle.std.specs.Ordering.{is_lt}
use Rattle.std.specs.List.Sorted.{IsSortedBy}
use Rattle.std.proofs.lemmas.List.Sorted.{answers_always}
use Rattle.grid_pieces.specs.declared.piece.Piece.{Piece}
use Rattle.grid_pieces.specs.Laws.Orders.{in_order}
use Rattle.grid_pieces.specs.Piece.{place_of}
use Rattle.macro_grid.specs.Drawing.{axis_place, whole_order}
use Rattle.macro_grid.specs.Laws.Orders.{whole_total}
use Rattle.macro_grid.proofs.merging.sort.Goals as goal

pub returns-clause-in_order : goal.returns-clause-in_order
returns-clause-in_order c i j d less within =
    let key : Piece → ℕ × ℕ × ℤ × ℤ × ℤ × ℤ × ℕ × ℕ =
    λ (p : Piece). (p.net, p.layer, p.centre, p.from, p.width, p.to, axis_place p.axis, place_of p.shape) in
    let sorted : IsSortedBy (λ x y. is_lt (whole_order x y)) c.sort_unstable_by_key.new.self =
    c.sort_unstable_by_key.ensures.sorted key (answers_always _ _ _ (λ f a r f' called. search rules)) in
    in_order whole_order whole_total c.sort_unstable_by_key.new.self sorted i j d (omega arith) within

-- The pieces of straps and of pins are sorted in one way.
use Rattle.std.specs.Cmp.{IsTotalOrder}
use Rattle.std.proofs.lemmas.Cmp.{nat_cmp_total, int_cmp_total, on_total, then_total}
use Rattle.grid_pieces.specs.declared.piece.Piece.{Piece}
use Rattle.grid_pieces.specs.Laws.Orders.{piece_total}
use Rattle.grid_pieces.specs.Piece.{place_of}
use Rattle.macro_grid.specs.Drawing.{axis_place, whole_order}

pub whole_total : IsTotalOrder whole_order
whole_total =
    then_total (then_total (then_total piece_total (on_total (λ (a : Piece). a.to) int_cmp_total)) (on_total (λ (a : Piece). axis_place a.axis) nat_cmp_total))
    (on_total (λ (a : Piece). place_of a.shape) nat_cmp_total)

-- Orders by several numbers in turn, and then by axis.
use Rattle.std.proofs.Common.{◌≡◌, Bool, true, false, Ordering, refl, sym, ap, ◌∙◌}
use Rattle.std.specs.declared.cmp.Ordering.TheVariants.{Less, Equal, Greater}
use Rattle.std.specs.Cmp.{IsTotalOrder, bool_cmp_total}
use Rattle.std.specs.Ordering.{bool_cmp, ordering_reverse, is_lt, is_gt}
use Rattle.std.proofs.lemmas.Bool.{false≢true}
use Rattle.std.proofs.lemmas.Cmp.{nat_cmp_total, int_cmp_total, on_total, then_total}
use Rattle.grid_pieces.specs.declared.piece.Piece.{Piece}
use Rattle.grid_pieces.specs.Laws.Orders.{piece_total}
use Rattle.wire_pieces.specs.Pieces.{is_upright, wire_order}
use Rattle.wire_pieces.specs.inside.Centre.{line_order, reach_order}

pub wire_total : IsTotalOrder wire_order
wire_total = then_total piece_total (on_total (λ (a : Piece). is_upright a.axis) bool_cmp_total)

pub line_total : IsTotalOrder line_order
line_total =
    then_total
    (then_total (then_total (on_total (λ (a : Piece). a.net) nat_cmp_total) (on_total (λ (a : Piece). a.layer) nat_cmp_total)) (on_total (λ (a : Piece). is_upright a.axis) bool_cmp_total))
    (on_total (λ (a : Piece). a.centre) int_cmp_total)

pub reach_total : IsTotalOrder reach_order
reach_total = then_total line_total (on_total (λ (a : Piece). a.from) int_cmp_total)

pub bool_equal : (a b : Bool) → bool_cmp a b ≡ Equal → a ≡ b
bool_equal false false e = refl
bool_equal false true e = absurd (cc)
bool_equal true false e = absurd (cc)
bool_equal true true e = refl

pub less_from : (o : Ordering) → is_gt o ≡ false → (o ≡ Equal → ⊥) → is_lt o ≡ true
less_from Less _ _ = refl
less_from Equal _ ne = absurd (ne refl)
less_from Greater low _ = absurd (false≢true (sym low))

-- what comes before is not equal
pub lt_differs : (o : Ordering) → is_lt o ≡ true → o ≡ Equal → ⊥
lt_differs Less is e = absurd (cc)
lt_differs Equal is e = absurd (false≢true is)
lt_differs Greater is e = absurd (false≢true is)

-- equal in one order, equal in the other
pub flip_equal : (a b : Piece) → wire_order a b ≡ Equal → wire_order b a ≡ Equal
flip_equal a b e = wire_total.antisymm b a ∙ ap ordering_reverse e

-- The pieces of straps and of pins are merged in one way.
use Rattle.std.proofs.Common.{◌≡◌, Equal, List, ◌++◌, IsPermutation, refl, subst, arith}
use Rattle.std.specs.Ordering.{nat_cmp, int_cmp}
use Rattle.geom_rect.specs.declared.direction.Axis.{Axis}
use Rattle.geom_rect.specs.declared.direction.Axis.TheVariants.{X, Y}
use Rattle.geom_rect.specs.declared.drawn.Shape.{Shape}
use Rattle.geom_rect.specs.declared.drawn.Shape.TheVariants.{Ring, Stripe, FollowPin}
use Rattle.grid_pieces.specs.declared.piece.Piece.{Piece}
use Rattle.grid_pieces.specs.Laws.Orders.{then_equal, nat_equal, int_equal}
use Rattle.grid_pieces.specs.Piece.{piece_order, place_of}
use Rattle.macro_grid.specs.Laws.Orders.{whole_total}
use Rattle.macro_grid.specs.Drawing.{axis_place, whole_order, AreMerged}
use Rattle.one_macro_grid.proofs.Sorted.{sorted_one_way}

-- ## pieces that are alike are one

one_axis : (a b : Axis) → axis_place a ≡ axis_place b → a ≡ b
one_axis X X same = refl
one_axis Y Y same = refl
one_axis a b same = absurd (omega arith)

one_shape : (a b : Shape) → place_of a ≡ place_of b → a ≡ b
one_shape Ring Ring same = refl
one_shape Stripe Stripe same = refl
one_shape FollowPin FollowPin same = refl
one_shape a b same = absurd (omega arith)

one_piece : (a b : Piece) → whole_order a b ≡ Equal → a ≡ b
one_piece a b equal =
    let by_shape = then_equal _ (nat_cmp (place_of a.shape) (place_of b.shape)) equal in
    let by_axis = then_equal _ (nat_cmp (axis_place a.axis) (axis_place b.axis)) by_shape.0 in
    let by_end = then_equal (piece_order a b) (int_cmp a.to b.to) by_axis.0 in
    let by_width = then_equal _ (int_cmp a.width b.width) by_end.0 in
    let by_start = then_equal _ (int_cmp a.from b.from) by_width.0 in
    let by_centre = then_equal _ (int_cmp a.centre b.centre) by_start.0 in
    let by_net = then_equal (nat_cmp a.net b.net) (nat_cmp a.layer b.layer) by_centre.0 in
    let net = nat_equal a.net b.net by_net.0 in
    let layer = nat_equal a.layer b.layer by_net.1 in
    let axis = one_axis a.axis b.axis (nat_equal (axis_place a.axis) (axis_place b.axis) by_axis.1) in
    let centre = int_equal a.centre b.centre by_centre.1 in
    let width = int_equal a.width b.width by_width.1 in
    let from = int_equal a.from b.from by_start.1 in
    let to = int_equal a.to b.to by_end.1 in
    let shape = one_shape a.shape b.shape (nat_equal (place_of a.shape) (place_of b.shape) by_shape.1) in
    λ i. record { net = net i; layer = layer i; axis = axis i; centre = centre i; width = width i; from = from i; to = to i; shape = shape i }

-- ## all pieces

pub one_merged : (straps straps' pins pins' a b : List Piece) → straps ≡ straps' → pins ≡ pins' → AreMerged straps pins a → AreMerged straps' pins' b → a ≡ b
one_merged straps straps' pins pins' a b same_straps same_pins x y =
    let both : straps ++ pins ≡ straps' ++ pins' = λ i. same_straps i ++ same_pins i in
    sorted_one_way whole_order whole_total one_piece (straps' ++ pins') a b (subst (λ (all : List Piece). IsPermutation all a) both x.same) y.same x.in_order y.in_order

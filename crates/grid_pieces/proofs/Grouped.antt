-- Lists sorted by several numbers in turn.
use Rattle.std.proofs.Common.{◌≡◌, List, get_or, subst, arith}
use Rattle.std.specs.declared.cmp.Ordering.TheVariants.{Equal}
use Rattle.std.specs.Cmp.{IsTotalOrder}
use Rattle.std.specs.Ordering.{nat_cmp, int_cmp, ordering_then, is_lt}
use Rattle.std.specs.List.Sorted.{IsSortedBy}
use Rattle.std.proofs.lemmas.Cmp.{nat_cmp_total, int_cmp_total, on_total, then_total, tied_itself}
use Rattle.std.proofs.lemmas.List.Elements.{Contains-get_or}
use Rattle.geom_rect.specs.declared.drawn.Drawn.{Drawn}
use Rattle.grid_pieces.specs.declared.line.Line.{Line}
use Rattle.grid_pieces.specs.Line.{drawn_line}
use Rattle.grid_pieces.specs.Limits.{OneAxis}
use Rattle.grid_pieces.specs.inside.Cutting.{drawn_order}
use Rattle.grid_pieces.specs.inside.Cutting.{IsGrouped}
use Rattle.grid_pieces.specs.inside.Sweep.{metal_order}
use Rattle.grid_pieces.specs.declared.metal.Metal.{Metal}
use Rattle.grid_pieces.specs.Laws.Orders.{then_equal, nat_equal, int_equal, alike_between}

pub drawn_total : IsTotalOrder drawn_order
drawn_total =
    then_total (then_total (then_total (on_total (λ (a : Drawn). a.net) nat_cmp_total) (on_total (λ (a : Drawn). a.layer) nat_cmp_total)) (on_total (λ (a : Drawn). a.centre) int_cmp_total))
    (on_total (λ (a : Drawn). a.width) int_cmp_total)

-- shapes that are alike lie on one line
drawn_alike : (a b : Drawn) → drawn_order a b ≡ Equal → (a.layer ≡ b.layer → a.axis ≡ b.axis) → drawn_line a ≡ drawn_line b
drawn_alike a b alike axes =
    let one = then_equal _ (int_cmp a.width b.width) alike in
    let two = then_equal _ (int_cmp a.centre b.centre) one.0 in
    let three = then_equal (nat_cmp a.net b.net) (nat_cmp a.layer b.layer) two.0 in
    let net : a.net ≡ b.net = nat_equal a.net b.net three.0 in
    let layer : a.layer ≡ b.layer = nat_equal a.layer b.layer three.1 in
    let centre : a.centre ≡ b.centre = int_equal a.centre b.centre two.1 in
    let width : a.width ≡ b.width = int_equal a.width b.width one.1 in
    let axis : a.axis ≡ b.axis = axes layer in
    λ i. record { net = net i; layer = layer i; axis = axis i; centre = centre i; width = width i }

same_line : (a b : Drawn) → drawn_line a ≡ drawn_line b → drawn_order a b ≡ Equal
same_line a b same =
    subst (λ (l : Line). ordering_then (ordering_then (ordering_then (nat_cmp a.net l.net) (nat_cmp a.layer l.layer)) (int_cmp a.centre l.centre)) (int_cmp a.width l.width) ≡ Equal)
    same (tied_itself drawn_total a)

pub grouped : (shapes : List Drawn) → OneAxis shapes → IsSortedBy (λ x y. is_lt (drawn_order x y)) shapes → IsGrouped shapes
grouped shapes axes sorted i j k d ij jk within same =
    let alike = same_line (get_or shapes i d) (get_or shapes k d) same in
    drawn_alike (get_or shapes i d) (get_or shapes j d) (alike_between drawn_order drawn_total shapes sorted i j k d ij jk within alike)
    (axes (get_or shapes i d) (get_or shapes j d) (Contains-get_or shapes i d (omega arith)) (Contains-get_or shapes j d (omega arith)))

pub metal_total : IsTotalOrder metal_order
metal_total =
    then_total
    (then_total (then_total (then_total (on_total (λ (m : Metal). m.layer) nat_cmp_total) (on_total (λ (m : Metal). m.rect.x1) int_cmp_total)) (on_total (λ (m : Metal). m.rect.y1) int_cmp_total))
    (on_total (λ (m : Metal). m.rect.x2) int_cmp_total))
    (on_total (λ (m : Metal). m.rect.y2) int_cmp_total)

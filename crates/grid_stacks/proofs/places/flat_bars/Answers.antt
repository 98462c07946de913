use Rattle.std.proofs.Common.{subst, arith}
use Rattle.std.proofs.lemmas.List.{with_items_is}
use Rattle.std.proofs.lemmas.List.Sorted.{length_permutation}
use Rattle.std.specs.List.Sorted.{IsPermutation}
use Rattle.geom_rect.specs.declared.direction.Axis.TheVariants.{X}
use Rattle.grid_stacks.proofs.Bridge.{bars_moved}
use Rattle.grid_stacks.proofs.places.flat_bars.Goals as goal

pub returns-clause-are : goal.returns-clause-are
returns-clause-are c =
    let kept = c.in_ok-flats.flats in
    let new = c.sort_by_low.new.bars in
    let moved : IsPermutation kept.items new = subst (λ bs. IsPermutation bs new) c.deref_mut.ensures.value c.sort_by_low.ensures.same in
    let long = length_permutation kept.items new moved in
    rw (with_items_is kept new (omega (arith, kept.ok.0))) (bars_moved c.args.connect.now X c.args.pieces.now kept.items new moved c.in_ok-flats.ensures)

pub returns-clause-in_order : goal.returns-clause-in_order
returns-clause-in_order c =
    let kept = c.in_ok-flats.flats in
    let new = c.sort_by_low.new.bars in
    let moved : IsPermutation kept.items new = subst (λ bs. IsPermutation bs new) c.deref_mut.ensures.value c.sort_by_low.ensures.same in
    let long = length_permutation kept.items new moved in
    rw (with_items_is kept new (omega (arith, kept.ok.0))) c.sort_by_low.ensures.in_order

use Rattle.std.proofs.Common.{◌≡◌, List, length, subst, arith}
use Rattle.std.specs.List.Sorted.{IsPermutation}
use Rattle.std.proofs.lemmas.List.{with_items_is}
use Rattle.std.proofs.lemmas.List.Sorted.{length_permutation}
use Rattle.wire_chains.specs.declared.via.ViaAt.{ViaAt}
use Rattle.wire_chains.proofs.Order.{strictly}
use Rattle.wire_chains.proofs.run.in_order.Goals as goal

pub returns-clause-same : goal.returns-clause-same
returns-clause-same c =
    let kept = c.args.vias in
    let new = c.sort.new.vias in
    let moved : IsPermutation kept.items new = subst (λ (vias : List ViaAt). IsPermutation vias new) c.deref_mut.ensures.value c.sort.ensures.same in
    let long = length_permutation kept.items new moved in
    rw (with_items_is kept new (omega (arith, kept.ok.0))) moved

pub returns-clause-sorted : goal.returns-clause-sorted
returns-clause-sorted c =
    let kept = c.args.vias in
    let new = c.sort.new.vias in
    let moved : IsPermutation kept.items new = subst (λ (vias : List ViaAt). IsPermutation vias new) c.deref_mut.ensures.value c.sort.ensures.same in
    let long = length_permutation kept.items new moved in
    rw (with_items_is kept new (omega (arith, kept.ok.0))) (strictly kept.items new c.requires moved c.sort.ensures.in_order)

use Rattle.std.proofs.Common.{subst, arith}
use Rattle.std.proofs.lemmas.List.{with_items_is}
use Rattle.std.proofs.lemmas.List.Sorted.{length_permutation, Contains-permutation}
use Rattle.std.specs.List.Sorted.{IsPermutation}
use Rattle.grid_stacks.proofs.bar.starts.Goals as goal

pub returns : goal.returns
returns c =
    let kept = c.loop-place.starts in
    let new = c.sort_starts.new.starts in
    let moved : IsPermutation kept.items new = subst (λ ss. IsPermutation ss new) c.deref_mut.ensures.value c.sort_starts.ensures.same in
    let long = length_permutation kept.items new moved in
    rw (with_items_is kept new (omega (arith, kept.ok.0)))
    (record {
      every = λ p bar at. Contains-permutation kept.items new (record { from = bar.from; place = p }) moved (c.loop-place.invariant p bar (omega (arith, at.0)) at);
      in_order = c.sort_starts.ensures.in_order;
    })

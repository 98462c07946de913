use Rattle.std.proofs.Common.{subst, arith}
use Rattle.std.proofs.lemmas.List.{with_items_is}
use Rattle.std.proofs.lemmas.List.Sorted.{length_permutation}
use Rattle.std.specs.List.Sorted.{IsPermutation}
use Rattle.geom_rect.proofs.RisingRuns.{Rises-sorted}
use Rattle.geom_rect.proofs.sweep.rising.Goals as goal

pub returns : goal.returns
returns c =
    let kept = c.in_ok-rising.rising in
    let new = c.sort.new.runs in
    let moved : IsPermutation kept.items new = subst (λ runs. IsPermutation runs new) c.deref_mut.ensures.value c.sort.ensures.same in
    let long = length_permutation kept.items new moved in
    rw (with_items_is kept new (omega (arith, kept.ok.0))) (Rises-sorted c.args.runs.now kept.items new c.in_ok-rising.ensures moved c.sort.ensures.rising)

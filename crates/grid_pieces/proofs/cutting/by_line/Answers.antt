use Rattle.std.proofs.Common.{subst, sym, ◌∙◌, arith}
use Rattle.std.proofs.lemmas.List.{with_items_is}
use Rattle.std.proofs.lemmas.List.Sorted.{length_permutation}
use Rattle.std.specs.List.Sorted.{IsPermutation}
use Rattle.grid_pieces.specs.Limits.{OneAxis}
use Rattle.grid_pieces.proofs.cutting.by_line.Goals as goal

pub group-requires : goal.group-requires
group-requires c = subst OneAxis (sym (c.deref_mut.ensures.value ∙ c.in_ok-grouped.ensures)) c.requires

pub returns-clause-same : goal.returns-clause-same
returns-clause-same c =
    let kept = c.in_ok-grouped.grouped in
    let new = c.group.new.shapes in
    let moved : IsPermutation kept.items new = subst (λ shapes. IsPermutation shapes new) c.deref_mut.ensures.value c.group.ensures.same in
    let long = length_permutation kept.items new moved in
    rw (with_items_is kept new (omega (arith, kept.ok.0))) (subst (λ shapes. IsPermutation shapes new) c.in_ok-grouped.ensures moved)

pub returns-clause-grouped : goal.returns-clause-grouped
returns-clause-grouped c =
    let kept = c.in_ok-grouped.grouped in
    let new = c.group.new.shapes in
    let moved : IsPermutation kept.items new = subst (λ shapes. IsPermutation shapes new) c.deref_mut.ensures.value c.group.ensures.same in
    let long = length_permutation kept.items new moved in
    rw (with_items_is kept new (omega (arith, kept.ok.0))) c.group.ensures.grouped

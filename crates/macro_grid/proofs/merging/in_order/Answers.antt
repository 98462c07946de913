use Rattle.std.proofs.Common.{List, subst, arith}
use Rattle.std.specs.List.Sorted.{IsPermutation}
use Rattle.std.proofs.lemmas.List.{with_items_is}
use Rattle.std.proofs.lemmas.List.Sorted.{length_permutation}
use Rattle.grid_pieces.specs.declared.piece.Piece.{Piece}
use Rattle.macro_grid.proofs.merging.in_order.Goals as goal

pub returns-clause-same : goal.returns-clause-same
returns-clause-same c =
    let kept = c.args.pieces in
    let new = c.sort.new.pieces in
    let moved : IsPermutation kept.items new = subst (λ (ps : List Piece). IsPermutation ps new) c.deref_mut.ensures.value c.sort.ensures.same in
    let long = length_permutation kept.items new moved in
    rw (with_items_is kept new (omega (arith, kept.ok.0))) moved

pub returns-clause-in_order : goal.returns-clause-in_order
returns-clause-in_order c =
    let kept = c.args.pieces in
    let new = c.sort.new.pieces in
    let moved : IsPermutation kept.items new = subst (λ (ps : List Piece). IsPermutation ps new) c.deref_mut.ensures.value c.sort.ensures.same in
    let long = length_permutation kept.items new moved in
    rw (with_items_is kept new (omega (arith, kept.ok.0))) c.sort.ensures.in_order

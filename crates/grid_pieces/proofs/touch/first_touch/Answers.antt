use Rattle.std.proofs.Common.{◌≡◌, All, subst, sym, ◌∙◌, arith}
use Rattle.std.proofs.lemmas.List.{with_items_is}
use Rattle.std.proofs.lemmas.List.Sorted.{length_permutation, All-permutation}
use Rattle.std.proofs.lemmas.Result.{IfOk-weaker}
use Rattle.std.specs.List.Sorted.{IsPermutation}
use Rattle.geom_rect.specs.Rect.{IsInOrder}
use Rattle.grid_pieces.specs.declared.metal.Metal.{Metal}
use Rattle.grid_pieces.specs.Touch.{metal, Finds}
use Rattle.grid_pieces.specs.inside.Sweep.{AreInOrder}
use Rattle.grid_pieces.proofs.Moved.{finds_moved}
use Rattle.grid_pieces.proofs.Upright.{upright}
use Rattle.grid_pieces.proofs.touch.first_touch.Goals as goal

pub first_in_order-requires-clause-upright : goal.first_in_order-requires-clause-upright
first_in_order-requires-clause-upright c =
    let kept = c.in_ok-metal.metal in
    let new = c.sort.new.metal in
    let moved : IsPermutation kept.items new = subst (λ ms. IsPermutation ms new) c.deref_mut.ensures.value c.sort.ensures.same in
    let long = length_permutation kept.items new moved in
    let now : c.deref.result.now ≡ new = c.deref.ensures.value ∙ with_items_is kept new (omega (arith, kept.ok.0)) in
    let all : All (λ (m : Metal). IsInOrder m.rect) kept.items =
    subst (All (λ (m : Metal). IsInOrder m.rect)) (sym c.in_ok-metal.ensures) (upright c.args.pieces.now c.args.stacks.now c.requires.pieces c.requires.stacks) in
    subst (All (λ (m : Metal). IsInOrder m.rect)) (sym now) (All-permutation (λ (m : Metal). IsInOrder m.rect) kept.items new moved all)

pub first_in_order-requires-clause-in_order : goal.first_in_order-requires-clause-in_order
first_in_order-requires-clause-in_order c =
    let kept = c.in_ok-metal.metal in
    let new = c.sort.new.metal in
    let moved : IsPermutation kept.items new = subst (λ ms. IsPermutation ms new) c.deref_mut.ensures.value c.sort.ensures.same in
    let long = length_permutation kept.items new moved in
    let now : c.deref.result.now ≡ new = c.deref.ensures.value ∙ with_items_is kept new (omega (arith, kept.ok.0)) in
    subst AreInOrder (sym now) c.sort.ensures.in_order

pub returns : goal.returns
returns c =
    let kept = c.in_ok-metal.metal in
    let new = c.sort.new.metal in
    let moved : IsPermutation kept.items new = subst (λ ms. IsPermutation ms new) c.deref_mut.ensures.value c.sort.ensures.same in
    let long = length_permutation kept.items new moved in
    let now : c.deref.result.now ≡ new = c.deref.ensures.value ∙ with_items_is kept new (omega (arith, kept.ok.0)) in
    let all = metal c.args.pieces.now c.args.stacks.now in
    let same : IsPermutation all new = subst (λ ms. IsPermutation ms new) c.in_ok-metal.ensures moved in
    IfOk-weaker c.first_in_order.result (Finds c.deref.result.now) (Finds all)
    (λ answer finds. finds_moved all new answer same (subst (λ ms. Finds ms answer) now finds)) c.first_in_order.ensures

use Rattle.std.proofs.Common.{◌≡◌, ◌≤◌, List, All, length, subst, sym, ◌∙◌, arith}
use Rattle.std.specs.List.Sorted.{IsPermutation}
use Rattle.std.proofs.lemmas.List.{with_items_is}
use Rattle.std.proofs.lemmas.List.Sorted.{length_permutation}
use Rattle.grid_stacks.specs.declared.connect.Site.{Site}
use Rattle.grid_pieces.specs.declared.piece.StackAt.{StackAt}
use Rattle.grid_stacks.specs.Crossing.{Stands}
use Rattle.grid_stacks.specs.Stacking.{AreAllowed, HasSheet, SiteKeeps, AreStacksAt, AreStacks, most_stacks}
use Rattle.grid_stacks.proofs.Refused.{allowed, all_keep, answered}
use Rattle.grid_stacks.proofs.stacking.stacks.Goals as goal

pub returns-in-Some : goal.returns-in-Some
returns-in-Some c =
    let kept = c.in_ok-sites.sites in
    let new = c.sort.new.sites in
    let moved : IsPermutation kept.items new = subst (λ ss. IsPermutation ss new) c.deref_mut.ensures.value c.sort.ensures.same in
    let few : length kept.items ≤ most_stacks = omega (arith, c.len.ensures, kept.ok.0, kept.ok.1) in
    (new, allowed c.args.tech.now c.args.pieces.now c.args.connects.now c.args.blocks.now kept.items new (omega arith) few c.in_ok-sites.ensures moved c.sort.ensures.in_order, c.in-Some.ensures)

pub stacks_at-requires-clause-sites : goal.stacks_at-requires-clause-sites
stacks_at-requires-clause-sites c =
    let kept = c.in_ok-sites.sites in
    let new = c.sort.new.sites in
    let moved : IsPermutation kept.items new = subst (λ ss. IsPermutation ss new) c.deref_mut.ensures.value c.sort.ensures.same in
    let long = length_permutation kept.items new moved in
    let now : c.deref.result.now ≡ new = c.deref.ensures.value ∙ with_items_is kept new (omega (arith, kept.ok.0)) in
    let few : length kept.items ≤ most_stacks = omega (arith, c.len.ensures, kept.ok.0, kept.ok.1) in
    let are = allowed c.args.tech.now c.args.pieces.now c.args.connects.now c.args.blocks.now kept.items new (omega arith) few c.in_ok-sites.ensures moved c.sort.ensures.in_order in
    subst (All (SiteKeeps c.args.tech.now)) (sym now) (all_keep c.args.tech.now c.args.pieces.now c.args.connects.now c.args.blocks.now new c.requires.connects c.requires.pieces are)

pub returns : goal.returns
returns c =
    let tech = c.args.tech.now in
    let kept = c.in_ok-sites.sites in
    let new = c.sort.new.sites in
    let moved : IsPermutation kept.items new = subst (λ ss. IsPermutation ss new) c.deref_mut.ensures.value c.sort.ensures.same in
    let long = length_permutation kept.items new moved in
    let now : c.deref.result.now ≡ new = c.deref.ensures.value ∙ with_items_is kept new (omega (arith, kept.ok.0)) in
    let few : length kept.items ≤ most_stacks = omega (arith, c.len.ensures, kept.ok.0, kept.ok.1) in
    let are = allowed tech c.args.pieces.now c.args.connects.now c.args.blocks.now kept.items new (omega arith) few c.in_ok-sites.ensures moved c.sort.ensures.in_order in
    let sheets : All (HasSheet tech) c.args.pieces.now = c.in_default.ensures in
    let are_now : AreAllowed (Stands tech c.args.pieces.now c.args.connects.now c.args.blocks.now) c.args.pieces.now c.deref.result.now =
    subst (AreAllowed (Stands tech c.args.pieces.now c.args.connects.now c.args.blocks.now) c.args.pieces.now) (sym now) are in
    answered (λ stacks. AreStacksAt tech c.args.units c.deref.result.now stacks.items)
    (λ stacks. AreStacks (Stands tech c.args.pieces.now c.args.connects.now c.args.blocks.now) tech c.args.units c.args.pieces.now stacks.items)
    (Stands tech c.args.pieces.now c.args.connects.now c.args.blocks.now) tech c.args.units c.args.pieces.now c.deref.result.now c.stacks_at.result are_now sheets
    (λ stacks h. (c.deref.result.now, are_now, sheets, h)) c.stacks_at.ensures

-- What the bounds miss is not found, and what is found in the left half goes before what is found in the right one.
use Rattle.std.proofs.Common.{◌≡◌, Some, None, subst, sym, ◌∙◌, ap}
use Rattle.std.specs.Option.{option_map}
use Rattle.rect_index.specs.Entry.{item_of, first_at}
use Rattle.rect_index.specs.inside.Tree.{entries_of, IsBounded}
use Rattle.rect_index.proofs.Missed.{missed_first}
use Rattle.rect_index.proofs.Found.{first_left, first_right}
use Rattle.rect_index.proofs.tree.+first.Goals as goal

pub returns-then-misses : goal.returns-then-misses
returns-then-misses g t c =
    let bounded = subst IsBounded c.in-Two.is c.requires in
    let none = missed_first c.in-Two.bounds c.args.group c.args.window _ (c.misses.ensures c.if-misses.true) bounded.0 in
    sym (ap (λ tree. first_at c.args.group c.args.window (entries_of tree)) c.in-Two.is ∙ ap (option_map item_of) none)

pub returns-in-Some : goal.returns-in-Some
returns-in-Some g t c =
    let left = entries_of c.in-Two.left.value in
    let l : c.deref-in-Two.result.now ≡ c.in-Two.left.value = c.deref-in-Two.ensures in
    let right = entries_of c.in-Two.right.value in
    let told : first_at c.args.group c.args.window left ≡ Some c.in-Some.item = ap (λ tree. first_at c.args.group c.args.window (entries_of tree)) (sym l) ∙ sym c.in-Some.ensures in
    sym (ap (λ tree. first_at c.args.group c.args.window (entries_of tree)) c.in-Two.is
    ∙ first_left c.args.group c.args.window left right c.in-Some.item told)

pub returns-in-None : goal.returns-in-None
returns-in-None g t c =
    let left = entries_of c.in-Two.left.value in
    let l : c.deref-in-Two.result.now ≡ c.in-Two.left.value = c.deref-in-Two.ensures in
    let right = entries_of c.in-Two.right.value in
    let told : first_at c.args.group c.args.window left ≡ None = ap (λ tree. first_at c.args.group c.args.window (entries_of tree)) (sym l) ∙ sym c.in-None.ensures in
    let r : c.deref-in-None.result.now ≡ c.in-Two.right.value = c.deref-in-None.ensures in
    c.first-in-None.ensures ∙ ap (λ tree. first_at c.args.group c.args.window (entries_of tree)) r
    ∙ sym (ap (λ tree. first_at c.args.group c.args.window (entries_of tree)) c.in-Two.is ∙ first_right c.args.group c.args.window left right told)

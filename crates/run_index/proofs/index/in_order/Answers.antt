use Rattle.std.proofs.Common.{List, map, subst, sym, ap, ◌∙◌}
use Rattle.rect_index.specs.declared.entry.Entry.{Entry as Boxed}
use Rattle.rect_index.specs.Entry.{item_of}
use Rattle.run_index.specs.declared.entry.Entry.{Entry}
use Rattle.run_index.specs.inside.Boxed.{AreBoxed}
use Rattle.run_index.proofs.Near.{are_boxed, items_of_boxes}
use Rattle.run_index.proofs.index.in_order.Goals as goal

pub invariant_of-result : goal.invariant_of-result
invariant_of-result c =
    subst (λ (boxes : List (Boxed Entry)). AreBoxed boxes) (sym (c.in_ok-new.ensures ∙ c.deref.ensures.value ∙ c.in_ok-boxes.ensures)) (are_boxed c.args.entries.now)

pub returns : goal.returns
returns c =
    ap (λ (boxes : List (Boxed Entry)). map item_of boxes) (c.in_ok-new.ensures ∙ c.deref.ensures.value ∙ c.in_ok-boxes.ensures) ∙ items_of_boxes c.args.entries.now

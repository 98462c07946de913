-- The entries of the index stand for the rectangles.
use Rattle.std.proofs.Common.{List, map, subst, ◌∙◌, sym}
use Rattle.std.specs.List.Sorted.{IsPermutation}
use Rattle.run_index.specs.declared.entry.Entry.{Entry}
use Rattle.grid_stacks.specs.inside.Inner.{entry_of}
use Rattle.grid_stacks.proofs.Indexed.{same_rects, one_group}
use Rattle.grid_stacks.proofs.inner.Inner.new.Goals as goal

pub returns : goal.returns
returns c =
    same_rects c.args.rects.now c.in_ok-index.index (subst (λ (es : List Entry). IsPermutation es c.in_ok-index.index) c.in_ok-entries.ensures c.in_ok-index.ensures)

pub invariant_of-result : goal.invariant_of-result
invariant_of-result c =
    one_group c.args.rects.now c.in_ok-index.index (subst (λ (es : List Entry). IsPermutation es c.in_ok-index.index) c.in_ok-entries.ensures c.in_ok-index.ensures)

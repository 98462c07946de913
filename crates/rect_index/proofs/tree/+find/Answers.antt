-- What the bounds miss adds nothing.
use Rattle.std.proofs.Common.{◌++◌, map, filter, subst, sym, ◌∙◌, ap}
use Rattle.std.proofs.lemmas.List.{append-nil}
use Rattle.rect_index.specs.Entry.{is_at, item_of}
use Rattle.rect_index.specs.inside.Tree.{entries_of, IsBounded}
use Rattle.rect_index.proofs.Missed.{missed_all}
use Rattle.rect_index.proofs.tree.+find.Goals as goal

pub returns-then-misses : goal.returns-then-misses
returns-then-misses g t c =
    let bounded = subst IsBounded c.in-Two.is c.requires in
    let none = missed_all c.in-Two.bounds c.args.group c.args.window _ (c.misses.ensures c.if-misses.true) bounded.0 in
    sym (ap (λ tree. c.args.found.now.items ++ map item_of (filter (is_at c.args.group c.args.window) (entries_of tree))) c.in-Two.is
    ∙ ap (λ es. c.args.found.now.items ++ map item_of es) none ∙ append-nil c.args.found.now.items)

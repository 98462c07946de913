-- What the entries before the next one stand for is added.
use Rattle.std.proofs.Common.{◌≡◌, ◌++◌, take, map, filter}
use Rattle.rect_index.specs.Entry.{is_at, item_of}
use Rattle.rect_index.proofs.tree.find_among.Given as goal

abbrev pub invariant-loop-entry : goal.invariant-loop-entry
invariant-loop-entry g l =
    l.found.items ≡ l.initial.found.items ++ map item_of (filter (is_at l.group l.window) (take l.entry-index l.entries))

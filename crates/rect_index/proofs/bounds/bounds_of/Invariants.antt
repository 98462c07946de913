-- The entries before the next one are within the bounds.
use Rattle.std.proofs.Common.{ℕ, ◌<◌, get_or}
use Rattle.rect_index.specs.inside.Tree.{IsWithin}
use Rattle.rect_index.proofs.bounds.bounds_of.Given as goal

abbrev pub invariant-loop-entry : goal.invariant-loop-entry
invariant-loop-entry g l = (k : ℕ) (d : _) → k < l.entry-index → IsWithin l.bounds (get_or l.entries k d)

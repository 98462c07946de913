use Rattle.std.proofs.Common.{◌≡◌, ◌≤◌, drop, length}
use Rattle.std.specs.Ordering.{nat_cmp}
use Rattle.std.specs.Cmp.Lexicographic.{slice_cmp}
use Rattle.node_names.specs.Folding.{folded}
use Rattle.node_names.proofs.key.order.Given as goal

abbrev pub invariant-loop-i : goal.invariant-loop-i
invariant-loop-i l =
    (l.i ≤ length l.second)
    × (slice_cmp nat_cmp (folded l.first) (folded l.second) ≡ slice_cmp nat_cmp (drop l.i (folded l.first)) (drop l.i (folded l.second)))

use Rattle.std.proofs.Common.{length, ◌-◌, ◌+◌, ◌≤◌}
use Rattle.geom_rect.specs.inside.Sweep.{IsSettled}
use Rattle.geom_rect.proofs.sweep.sweep.Given as goal

abbrev pub invariant-loop-i : goal.invariant-loop-i
invariant-loop-i l =
    IsSettled l.covered l.blocked l.at l.i l.j l.answer.items × (l.i ≤ length l.covered) × (l.j ≤ length l.blocked)

abbrev pub decreases-loop-i : goal.decreases-loop-i
decreases-loop-i l = (length l.covered - l.i) + (length l.blocked - l.j)

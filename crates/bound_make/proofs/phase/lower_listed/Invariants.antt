use Rattle.std.proofs.Common.{◌≤◌, length, ◌+◌, ◌*◌}
use Rattle.bound_make.specs.inside.Half.{seen}
use Rattle.bound_make.specs.inside.Moving.{IsLowering, fall_room}
use Rattle.bound_make.proofs.phase.lower_listed.Given as goal

abbrev pub invariant-loop-node : goal.invariant-loop-node
invariant-loop-node l = record {
  kept : IsLowering (seen l.half l.net) l.initial.x l.x;
  room : fall_room l.x ≤ fall_room l.initial.x;
}

abbrev pub decreases-loop-node : goal.decreases-loop-node
decreases-loop-node l = fall_room l.x * (length l.list.ring.now + 1) + l.list.count

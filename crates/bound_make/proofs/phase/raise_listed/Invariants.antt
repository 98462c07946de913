use Rattle.std.proofs.Common.{◌≤◌, length, ◌+◌, ◌*◌}
use Rattle.bound_make.specs.inside.Half.{seen}
use Rattle.bound_make.specs.inside.Moving.{IsRaising, rise_room}
use Rattle.bound_make.proofs.phase.raise_listed.Given as goal

abbrev pub invariant-loop-node : goal.invariant-loop-node
invariant-loop-node l = record {
  kept : IsRaising (seen l.half l.net) l.initial.x l.x;
  room : rise_room l.x ≤ rise_room l.initial.x;
}

abbrev pub decreases-loop-node : goal.decreases-loop-node
decreases-loop-node l = rise_room l.x * (length l.list.ring.now + 1) + l.list.count

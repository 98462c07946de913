use Rattle.std.proofs.Common.{◌≡◌, ◌++◌, map, take, drop}
use Rattle.group_net.specs.Merging.{grouped_pad}
use Rattle.group_net.proofs.moved.move_pads.Given as goal

-- Those before the index have their groups, and the others are as they were.
abbrev pub invariant-loop-pad : goal.invariant-loop-pad
invariant-loop-pad l = l.pads ≡ map (grouped_pad l.group) (take l.pad-index l.initial.pads) ++ drop l.pad-index l.initial.pads

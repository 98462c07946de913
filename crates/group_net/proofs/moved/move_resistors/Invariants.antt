use Rattle.std.proofs.Common.{◌≡◌, ◌++◌, map, take, drop}
use Rattle.group_net.specs.Merging.{grouped_resistor}
use Rattle.group_net.proofs.moved.move_resistors.Given as goal

-- Those before the index have their groups, and the others are as they were.
abbrev pub invariant-loop-resistor : goal.invariant-loop-resistor
invariant-loop-resistor l = l.resistors ≡ map (grouped_resistor l.group) (take l.resistor-index l.initial.resistors) ++ drop l.resistor-index l.initial.resistors

use Rattle.std.proofs.Common.{◌≤◌, ◌-◌}
use Rattle.grid_net.specs.inside.Level.{IsSearch, IsFront, HasPads}
use Rattle.grid_net.proofs.level.search.Given as goal

abbrev pub invariant-loop-head : goal.invariant-loop-head
invariant-loop-head l = record {
  search : IsSearch l.circuit l.levels l.queue l.tail;
  pads : HasPads l.circuit l.levels;
  front : IsFront l.circuit l.levels l.queue l.head l.end l.tail l.level;
  low : l.level ≤ l.head;
}

abbrev pub decreases-loop-head : goal.decreases-loop-head
decreases-loop-head l = l.circuit.nodes - l.head

use Rattle.std.proofs.Common.{◌≡◌, ℕ, ◌<◌, Some, get_or}
use Rattle.grid_net.specs.Network.{other_end}
use Rattle.grid_net.specs.inside.Flows.{no_resistor}
use Rattle.grid_net.specs.inside.Level.{told, IsSearch, IsGrown}
use Rattle.grid_net.proofs.level.visit.Given as goal

abbrev pub invariant-loop-place : goal.invariant-loop-place
invariant-loop-place l = record {
  search : IsSearch l.circuit l.levels l.queue l.end;
  grown : IsGrown l.level l.initial.levels l.levels l.initial.queue l.queue l.tail l.end;
  met : (k : ℕ) → k < l.place-index → (m : ℕ) × (told l.levels (other_end (get_or l.resistors (get_or l.around k 0) no_resistor) l.node) ≡ Some m);
}

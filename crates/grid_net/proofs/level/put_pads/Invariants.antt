use Rattle.std.proofs.Common.{◌≡◌, ℕ, ◌<◌, Some, get_or}
use Rattle.grid_net.specs.declared.part.Pad.{Pad}
use Rattle.grid_net.specs.inside.Level.{told, IsSearch, IsGrown}
use Rattle.grid_net.proofs.level.put_pads.Given as goal

abbrev pub invariant-loop-pad : goal.invariant-loop-pad
invariant-loop-pad l = record {
  search : IsSearch l.circuit l.levels l.queue l.end;
  grown : IsGrown 0 l.initial.levels l.levels l.initial.queue l.queue 0 l.end;
  met : (k : ℕ) (d : Pad) → k < l.pad-index → told l.levels (get_or l.circuit.pads k d).node ≡ Some 0;
}

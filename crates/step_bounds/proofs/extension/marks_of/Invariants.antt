use Rattle.std.proofs.Common.{◌≡◌, ℕ, ◌<◌, length, get_or, take, false}
use Rattle.step_bounds.specs.StepNetwork.{has_memory}
use Rattle.step_bounds.proofs.extension.marks_of.Given as goal

abbrev pub invariant-loop-companion : goal.invariant-loop-companion
invariant-loop-companion l = record {
  size : length l.marks.items ≡ l.nodes;
  so_far : (i : ℕ) → i < l.nodes → get_or l.marks.items i false ≡ has_memory (take l.companion-index l.companions) i;
}

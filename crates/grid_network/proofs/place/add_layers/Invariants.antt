use Rattle.std.proofs.Common.{ℕ, ◌≡◌, ◌<◌, ◌≤◌}
use Rattle.grid_network.specs.Drawing.{key_of_stack}
use Rattle.grid_network.specs.inside.Steps.{Adds}
use Rattle.grid_network.proofs.place.add_layers.Given as goal

abbrev pub invariant-loop-layer : goal.invariant-loop-layer
invariant-loop-layer l = Adds (λ key. (k : ℕ) × (l.stack.stack.from ≤ k) × (k < l.layer) × (key ≡ key_of_stack l.stack k)) l.initial.keys.items l.keys.items

use Rattle.std.proofs.Common.{◌-◌, ◌<◌, ◌≤◌, ℕ, length, get_or}
use Rattle.grid_pieces.specs.declared.metal.Metal.{Metal}
use Rattle.grid_pieces.specs.inside.Sweep.{Touch}
use Rattle.grid_pieces.proofs.place.second_place.Given as goal

abbrev pub invariant-loop-at : goal.invariant-loop-at
invariant-loop-at l = (l.first < l.at) × (l.at ≤ length l.metal) × ((j : ℕ) (d : Metal) → l.first < j → j < l.at → Touch (get_or l.metal l.first d) (get_or l.metal j d) → ⊥)

abbrev pub decreases-loop-at : goal.decreases-loop-at
decreases-loop-at l = length l.metal - l.at

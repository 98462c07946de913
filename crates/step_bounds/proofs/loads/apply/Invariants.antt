use Rattle.std.proofs.Common.{◌≡◌, ℕ, length, take, map}
use Rattle.std.specs.List.{range_with_len}
use Rattle.grid_net.specs.declared.part.LoadRange.{LoadRange}
use Rattle.step_bounds.specs.Changes.{load_entry}
use Rattle.step_bounds.specs.inside.Loads.{loads_after}
use Rattle.step_bounds.proofs.loads.apply.Given as goal

abbrev pub invariant-loop-change : goal.invariant-loop-change
invariant-loop-change l =
    (f : ℕ → LoadRange) → l.initial.loads ≡ map (load_entry f) (range_with_len 0 (length l.initial.loads))
    → l.loads ≡ loads_after f (take l.change-index l.changes) (length l.initial.loads)

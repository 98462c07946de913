-- The loads as the code changes them from step to step.
use Rattle.std.specs.Prelude.{◌≡◌, ℕ, ◌<◌, ◌≤◌, ◌≤ℤ◌, List, length, map, slice_index_or}
use Rattle.std.specs.List.{range_with_len}
use Rattle.grid_net.specs.declared.part.Load.{Load}
use Rattle.grid_net.specs.declared.part.LoadRange.{LoadRange}
use Rattle.wave_file.specs.declared.record.Change.{Change}
use Rattle.step_bounds.specs.Changes.{range_after, load_entry}

-- One entry for each node: its range after changes, where f tells the range before.
abbrev pub loads_after : (ℕ → LoadRange) → List Change → ℕ → List Load
loads_after f changes nodes = map (load_entry (λ i. range_after changes i (f i))) (range_with_len 0 nodes)

-- Of changes in order the first so many are those of a step that is at most this one.
pub record IsEnd (changes : List Change) (step end : ℕ) : Type 0 where
  pub within : end ≤ length changes
  pub below : (k : ℕ) (d : Change) → k < end → (slice_index_or changes k d).step ≤ step
  pub above : (k : ℕ) (d : Change) → end ≤ k → k < length changes → step < (slice_index_or changes k d).step

-- One entry for each node, with no low end above its high end.
pub record AreLoads (nodes : ℕ) (loads : List Load) : Type 0 where
  pub range : ℕ → LoadRange
  pub is : loads ≡ map (load_entry range) (range_with_len 0 nodes)
  pub in_order : (i : ℕ) → i < nodes → (range i).low ≤ℤ (range i).high

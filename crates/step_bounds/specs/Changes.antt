-- The loads of a network over the time steps, as changes say them.
use Rattle.std.specs.Prelude.{◌≡◌, ◌≢◌, ℕ, ◌<◌, ◌==◌, ◌≤ℤ◌, if◌then◌else◌, nat_le, List, [], ◌∷◌, All, AllPairs, map, filter}
use Rattle.std.specs.List.{range_with_len}
use Rattle.std.specs.List.Sorted.{IsNonDecreasing}
use Rattle.grid_net.specs.declared.part.Load.{Load}
use Rattle.grid_net.specs.declared.part.LoadRange.{LoadRange}
use Rattle.grid_net.specs.Network.{Network, load_range}
use Rattle.wave_file.specs.declared.record.Change.{Change}

-- The range of a node's load after changes: that of the last change that names the node, and the range before where none does.
abbrev pub range_after : List Change → ℕ → LoadRange → LoadRange
range_after [] node range = range
range_after (c ∷ cs) node range =
    range_after cs node (if c.node == node then record { low = c.low; high = c.high } else range)

-- The changes of a step that is at most t.
abbrev pub changes_until : List Change → ℕ → List Change
changes_until changes t = filter (λ c. nat_le c.step t) changes

-- The range of a node's load at step t: that of the last change of a step at most t that names the node, and the network's where
-- none does.
abbrev pub load_at : Network → List Change → ℕ → ℕ → LoadRange
load_at net changes t node = range_after (changes_until changes t) node (load_range net node)

-- A range that is drawn out of a node.
abbrev pub load_entry : (ℕ → LoadRange) → ℕ → Load
load_entry range node = record { node = node; low = (range node).low; high = (range node).high }

-- The loads of step t, one entry for each node, in the order of nodes.
abbrev pub step_loads : Network → List Change → ℕ → List Load
step_loads net changes t = map (load_entry (load_at net changes t)) (range_with_len 0 net.nodes)

-- Changes as a wave file has them: each names a node, with a low end that is not above its high end; their steps do not fall; and
-- no two name one node at one step.
pub record AreChanges (net : Network) (changes : List Change) : Type 0 where
  pub nodes : All (λ c. c.node < net.nodes) changes
  pub ranges : All (λ c. c.low ≤ℤ c.high) changes
  pub in_order : IsNonDecreasing (map (λ c. c.step) changes)
  pub once : AllPairs (λ c d. c.step ≡ d.step → c.node ≢ d.node) changes

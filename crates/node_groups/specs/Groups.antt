-- Nodes in groups: each group is one conductor, all nodes that chains of shorts join.
use Rattle.std.specs.Prelude.{◌≡◌, ◌↔◌, ℕ, ◌<◌, ◌≤◌, List, All, length, slice_index}
use Rattle.std.specs.List.Sorted.{IsStrictlyIncreasing}
use Rattle.node_groups.specs.Joined.{AreJoined}

-- The nodes 0 .. nodes - 1 in groups: `group` tells the group of each node, and `firsts` the first node of each group.
pub record AreGroups (nodes : ℕ) (shorts : List (ℕ × ℕ)) (group firsts : List ℕ) : Type 0 where
  pub one_a_node : length group ≡ nodes
  -- Two nodes have one group exactly where a chain of shorts joins them.
  pub joined : (i j : ℕ) → i < nodes → j < nodes
      → (slice_index group i ≡ slice_index group j) ↔ AreJoined shorts i j
  -- The group of each node is in the list, and so is no other.
  pub each_group : All (λ g. g < length firsts) group
  pub each_first : All (λ first. first < nodes) firsts
  pub of_its_group : (g : ℕ) → g < length firsts → slice_index group (slice_index firsts g) ≡ g
  -- No node stands before the first of its group.
  pub first : (i : ℕ) → i < nodes → slice_index firsts (slice_index group i) ≤ i
  -- The groups stand in the order of their first nodes.
  pub in_order : IsStrictlyIncreasing firsts

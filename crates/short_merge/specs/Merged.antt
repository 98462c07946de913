-- The merged network of a netlist with shorts.
use Rattle.std.specs.Prelude.{◌≡◌, ℕ, List, [], length, map, slice_index, slice_index_or}
use Rattle.capacitors.specs.declared.End.{End}
use Rattle.capacitors.specs.declared.End.TheVariants.{Node, Ground, Nowhere}
use Rattle.capacitors.specs.declared.Cap.{Cap}
use Rattle.spice_grid.specs.declared.named.Named.{Named}
use Rattle.node_groups.specs.Groups.{AreGroups}
use Rattle.group_net.specs.Merging.{merged_network}
use Rattle.short_merge.specs.declared.merged.Merged.{Merged}

-- The end of a capacitor in the merged network: a node is given by its group.
abbrev pub merged_end : List ℕ → End → End
merged_end group (Node number) = Node (slice_index group number)
merged_end group Ground = Ground
merged_end group Nowhere = Nowhere

-- A capacitor in the merged network.
abbrev pub merged_cap : List ℕ → Cap → Cap
merged_cap group cap = record { a = merged_end group cap.a; b = merged_end group cap.b; farads = cap.farads }

-- Exactly the nodes that a chain of shorts joins are one node of the merged network. A group bears the name of its first
-- node, and the groups stand in the order of their first nodes. The capacitors keep their order.
pub record IsMerged (named : Named) (merged : Merged) : Type 0 where
  pub firsts : List ℕ
  pub groups : AreGroups named.net.nodes named.shorts merged.group firsts
  pub names : merged.names ≡ map (λ node. slice_index_or named.names node []) firsts
  pub network : merged.net ≡ merged_network named.net merged.group (length firsts)
  pub caps : merged.caps ≡ map (merged_cap merged.group) named.caps

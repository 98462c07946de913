-- How groups are kept while shorts are joined: each node leads to a node of its group that stands no later, and the
-- first node of a group leads to itself.
use Rattle.std.specs.Prelude.{◌≡◌, ℕ, zero, suc, ◌<◌, ◌≤◌, List, All, length, slice_index}
use Rattle.std.specs.List.Sorted.{IsStrictlyIncreasing}
use Rattle.node_groups.specs.Joined.{AreJoined}

-- No node leads to a later one.
abbrev pub LeadsBack : List ℕ → Type 0
LeadsBack parents = (i : ℕ) → i < length parents → slice_index parents i ≤ i

-- So many steps lead from one node to another.
abbrev pub Leads : List ℕ → ℕ → ℕ → ℕ → Type 0
Leads parents zero i j = i ≡ j
Leads parents (suc k) i j = Leads parents k (slice_index parents i) j

-- Steps lead from one node to another.
abbrev pub LeadsTo : List ℕ → ℕ → ℕ → Type 0
LeadsTo parents i j = (k : ℕ) × Leads parents k i j

-- A labelling of the nodes gives each node the label of the node that it leads to.
abbrev pub Follows : (ℕ → ℕ) → List ℕ → Type 0
Follows label parents = (i : ℕ) → i < length parents → label i ≡ label (slice_index parents i)

-- What was joined stays joined: each labelling that follows the new steps follows the old.
abbrev pub KeepsJoined : List ℕ → List ℕ → Type 0
KeepsJoined old new = (label : ℕ → ℕ) → Follows label new → Follows label old

-- Shorter ways alone: each new step is made of old ones.
abbrev pub IsMadeOf : List ℕ → List ℕ → Type 0
IsMadeOf new old = (i : ℕ) → i < length old → LeadsTo old i (slice_index new i)

-- A node that leads to itself goes on doing so.
abbrev pub KeepsFirsts : List ℕ → List ℕ → Type 0
KeepsFirsts old new = (i : ℕ) → slice_index old i ≡ i → slice_index new i ≡ i

-- A chain of shorts joins each node to the one that it leads to.
abbrev pub IsByShorts : List (ℕ × ℕ) → List ℕ → Type 0
IsByShorts shorts parents = (i : ℕ) → i < length parents → AreJoined shorts i (slice_index parents i)

-- The ends of each short have one label, whatever labelling follows the steps.
abbrev pub Joins : List (ℕ × ℕ) → List ℕ → Type 0
Joins shorts parents = (label : ℕ → ℕ) → Follows label parents → All (λ (s : ℕ × ℕ). label s.0 ≡ label s.1) shorts

-- The first so many nodes have groups, which are numbered in the order of the nodes that lead to themselves.
pub record AreNumbered (parents : List ℕ) (count : ℕ) (group firsts : List ℕ) : Type 0 where
  pub one_a_node : length group ≡ count
  pub no_more : length firsts ≤ count
  pub each_group : (i : ℕ) → i < count → slice_index group i < length firsts
  pub each_first : (g : ℕ) → g < length firsts → slice_index firsts g < count
  pub of_its_group : (g : ℕ) → g < length firsts → slice_index group (slice_index firsts g) ≡ g
  pub along : (i : ℕ) → i < count → slice_index group i ≡ slice_index group (slice_index parents i)
  pub first : (i : ℕ) → i < count → slice_index firsts (slice_index group i) ≤ i
  pub leads : (i : ℕ) → i < count → LeadsTo parents i (slice_index firsts (slice_index group i))
  pub in_order : IsStrictlyIncreasing firsts

-- How far the way from a node has been gone: it stands at another node, to which the old steps led, and some steps are
-- shorter now.
pub record IsClimbing (old now : List ℕ) (node at : ℕ) : Type 0 where
  pub same_length : length now ≡ length old
  pub is_node : at < length old
  pub back : LeadsBack now
  pub kept : KeepsJoined old now
  pub joined : (label : ℕ → ℕ) → Follows label now → label node ≡ label at
  pub reached : LeadsTo old node at
  pub made_of : IsMadeOf now old
  pub firsts : KeepsFirsts old now

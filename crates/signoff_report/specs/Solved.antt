-- What the verdicts and the printed intervals say of every solution of a network.
use Rattle.std.specs.Prelude.{◌≡◌, ℕ, ◌<◌, ◌≤◌, ℤ, pos, ◌*ℤ◌, ◌-ℤ◌, Option, Some, length, unsigned_abs, slice_index}
use Rattle.grid_net.specs.Network.{Network}
use Rattle.grid_net.specs.Solution.{IsSolution}
use Rattle.em_rules.specs.Verdict.{KeepsLimit}
use Rattle.signoff_report.specs.declared.records.Limits.{Limits}
use Rattle.signoff_report.specs.declared.records.NetLimit.{NetLimit}

-- In every solution the current of a branch has this, over the solution's denominator.
abbrev pub EachCurrent : Network → ℕ → (ℕ → ℤ → Type 0) → Type 0
EachCurrent net branch has = (q : ℕ) (p c drawn : ℕ → ℤ) → IsSolution net q p c drawn → has q (c branch)

-- A node's voltage p / q keeps a limit of drops: it is at most the limit away from the supply, on either side.
abbrev pub KeepsDrop : ℤ → ℤ → ℕ → ℤ → Type 0
KeepsDrop supply drop q p = KeepsLimit (unsigned_abs drop) q (p -ℤ (pos q *ℤ supply))

-- Every node of a net keeps its limit of drops in a solution's voltages.
abbrev pub EachNodeKeeps : Network → Limits → ℕ → ℤ → ℤ → ℕ → (ℕ → ℤ) → Type 0
EachNodeKeeps net limits k supply drop q p =
    (node : ℕ) → node < net.nodes → slice_index limits.net_of node ≡ k → KeepsDrop supply drop q (p node)

-- Some node of a net passes its limit of drops in a solution's voltages.
abbrev pub SomeNodePasses : Network → Limits → ℕ → ℤ → ℤ → ℕ → (ℕ → ℤ) → Type 0
SomeNodePasses net limits k supply drop q p =
    (node : ℕ) × (node < net.nodes) × (slice_index limits.net_of node ≡ k) × (¬ KeepsDrop supply drop q (p node))

-- What the report of a grid says of every solution of its network.
use Rattle.std.specs.Prelude.{◌≡◌, ℕ, ◌<◌, ℤ, Some, length}
use Rattle.bound_check.specs.Certified.{Certificate, LiesWithin, nanovolt, nanoampere}
use Rattle.em_rules.specs.declared.words.Verdict.TheVariants.{Safe, Unsafe}
use Rattle.em_rules.specs.Verdict.{KeepsLimit}
use Rattle.grid_net.specs.Network.{Network}
use Rattle.grid_net.specs.Solution.{IsSolution}
use Rattle.signoff_report.specs.declared.records.Limits.{Limits}
use Rattle.signoff_report.specs.Judged.{branch_verdict, net_verdict}
use Rattle.signoff_report.specs.Limits.{branch_at, net_at, resistor_at}
use Rattle.signoff_report.specs.Shown.{shown_voltage, shown_current}
use Rattle.signoff_report.specs.Solved.{EachNodeKeeps, SomeNodePasses}

-- Every solution of Ohm's and Kirchhoff's laws on the network, over every common denominator q and whatever is drawn within
-- the ranges of the loads: each node's voltage and each branch's current lie within the intervals that the report prints;
-- a branch that is printed SAFE keeps its limit, and one that is printed UNSAFE passes it; each node of a net that is
-- printed SAFE keeps the net's limit of drops, and some node of one that is printed UNSAFE passes it.
pub record SolutionsKeep (net : Network) (c : Certificate) (limits : Limits) : Type 0 where
  pub voltages : (q : ℕ) (p currents drawn : ℕ → ℤ) → IsSolution net q p currents drawn → (node : ℕ) → node < net.nodes
      → LiesWithin nanovolt q (p node) (shown_voltage c node)
  pub currents : (q : ℕ) (p currents drawn : ℕ → ℤ) → IsSolution net q p currents drawn → (k : ℕ)
      → k < length net.resistors → LiesWithin nanoampere q (currents k) (shown_current c (resistor_at net k))
  pub safe_branches : (k limit : ℕ) → k < length net.resistors → (branch_at c limits k).1 ≡ Some limit
      → branch_verdict c (branch_at c limits k) ≡ Safe
      → (q : ℕ) (p currents drawn : ℕ → ℤ) → IsSolution net q p currents drawn → KeepsLimit limit q (currents k)
  pub unsafe_branches : (k limit : ℕ) → k < length net.resistors → (branch_at c limits k).1 ≡ Some limit
      → branch_verdict c (branch_at c limits k) ≡ Unsafe
      → (q : ℕ) (p currents drawn : ℕ → ℤ) → IsSolution net q p currents drawn → ¬ KeepsLimit limit q (currents k)
  pub safe_nets : (k : ℕ) (drop : ℤ) → k < length limits.nets → (net_at limits k).drop ≡ Some drop
      → net_verdict c limits k (net_at limits k) ≡ Safe
      → (q : ℕ) (p currents drawn : ℕ → ℤ) → IsSolution net q p currents drawn
      → EachNodeKeeps net limits k (net_at limits k).supply drop q p
  pub unsafe_nets : (k : ℕ) (drop : ℤ) → k < length limits.nets → (net_at limits k).drop ≡ Some drop
      → net_verdict c limits k (net_at limits k) ≡ Unsafe
      → (q : ℕ) (p currents drawn : ℕ → ℤ) → IsSolution net q p currents drawn
      → SomeNodePasses net limits k (net_at limits k).supply drop q p

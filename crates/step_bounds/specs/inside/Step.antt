-- One step, from the lists before it.
use Rattle.std.specs.Prelude.{◌≡◌, ◌⊎◌, ⊤, ℕ, ◌+◌, ℤ, List, All, length, Some, None}
use Rattle.grid_net.specs.declared.part.Load.{Load}
use Rattle.grid_net.specs.declared.error.NetError.TheVariants.{Range}
use Rattle.grid_net.specs.Network.{Network}
use Rattle.step_bounds.specs.declared.companion.Companion.{Companion}
use Rattle.step_bounds.specs.declared.lists.Lists.{Lists}
use Rattle.step_bounds.specs.declared.lists.Bounds.{Bounds}
use Rattle.step_bounds.specs.declared.passed.Passed.{Passed}
use Rattle.step_bounds.specs.declared.passed.Passed.TheVariants.{Limit, Want}
use Rattle.step_bounds.specs.declared.error.StepError.{StepError}
use Rattle.step_bounds.specs.declared.error.StepError.TheVariants.{Range as StepRange, Want as StepWant}
use Rattle.step_bounds.specs.declared.steps.Steps.{Steps}
use Rattle.step_bounds.specs.StepNetwork.{refusal_over}
use Rattle.step_bounds.specs.StepCertificate.{list_at, IsHighBound, IsLowBound}

-- There are as many low lists as high ones, t + 1 of them, and each has one entry for each node.
pub record AreLists (nodes t : ℕ) (lists : Lists) : Type 0 where
  pub high_count : length lists.high.items ≡ t + 1
  pub low_count : length lists.low.items ≡ t + 1
  pub high_sizes : All (λ x. length x ≡ nodes) lists.high.items
  pub low_sizes : All (λ x. length x ≡ nodes) lists.low.items

-- Two lists bound a step with these loads, over the lists at t, and its networks pass no limit.
pub record AreBounds (net : Network) (companions : List Companion) (loads : List Load) (t : ℕ) (lists : Lists)
    (bounds : Bounds) : Type 0 where
  pub high_size : length bounds.high.items ≡ net.nodes
  pub low_size : length bounds.low.items ≡ net.nodes
  pub high_bound : IsHighBound net companions loads (list_at lists.high.items t) bounds.high.items
  pub low_bound : IsLowBound net companions loads (list_at lists.low.items t) bounds.low.items
  pub high_kept : refusal_over net companions loads (list_at lists.high.items t) ≡ None
  pub low_kept : refusal_over net companions loads (list_at lists.low.items t) ≡ None

-- What is told refuses the network over one of two lists.
abbrev pub IsPassedOver : Network → List Companion → List Load → List ℤ → List ℤ → Passed → Type 0
IsPassedOver net companions loads high low (Limit quantity at number) =
    (refusal_over net companions loads high ≡ Some (Range quantity at number))
    ⊎ (refusal_over net companions loads low ≡ Some (Range quantity at number))
IsPassedOver net companions loads high low Want = ⊤

-- What is told refuses the network over the high list at t, or that over the low one.
abbrev pub IsPassedAt : Network → List Companion → List Load → ℕ → Lists → Passed → Type 0
IsPassedAt net companions loads t lists passed =
    IsPassedOver net companions loads (list_at lists.high.items t) (list_at lists.low.items t) passed

-- The error of a step that did not come to be: a limit with the lists before, or want of memory.
abbrev pub IsErrorAt : ℕ → Passed → Lists → StepError → Type 0
IsErrorAt step (Limit quantity at number) lists error =
    (before : Steps) × (error ≡ StepRange step quantity at number before) × (before.high ≡ lists.high.items)
    × (before.low ≡ lists.low.items)
IsErrorAt step Want lists error = error ≡ StepWant

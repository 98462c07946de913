-- Lists that bound each time step: a high and a low voltage for each step and node.
use Rattle.std.specs.Prelude.{◌≡◌, ℕ, suc, ◌<◌, ℤ, List, [], ◌++◌, length, map, All, None, slice_index_or}
use Rattle.grid_net.specs.declared.part.Load.{Load}
use Rattle.grid_net.specs.Network.{Network, entry_of}
use Rattle.grid_net.specs.Certificate.{IsCertificate, IsTight}
use Rattle.bound_make.specs.Halves.{IsTightHigh, IsTightLow}
use Rattle.step_bounds.specs.declared.companion.Companion.{Companion}
use Rattle.wave_file.specs.declared.record.Change.{Change}
use Rattle.step_bounds.specs.Changes.{step_loads}
use Rattle.step_bounds.specs.StepNetwork.{nodes_with_memory, network_over, step_refusal}

-- The list of a step.
abbrev pub list_at : List (List ℤ) → ℕ → List ℤ
list_at lists t = slice_index_or lists t []

-- A list of the nodes, with what the list before has at the memory nodes.
abbrev pub with_memory : Network → List Companion → List ℤ → List ℤ → List ℤ
with_memory net companions before x = x ++ map (entry_of before) (nodes_with_memory companions net.nodes)

-- A high list of a step with these loads, over the high list of the step before: it is all that a tight certificate of the
-- step's network asks of its high list.
abbrev pub IsHighBound : Network → List Companion → List Load → List ℤ → List ℤ → Type 0
IsHighBound net companions loads before high =
    IsTightHigh (network_over net companions loads before) (entry_of (with_memory net companions before high))

-- A low list of a step with these loads, over the low list of the step before.
abbrev pub IsLowBound : Network → List Companion → List Load → List ℤ → List ℤ → Type 0
IsLowBound net companions loads before low =
    IsTightLow (network_over net companions loads before) (entry_of (with_memory net companions before low))

-- The lists of the first so many steps: those of step 0 are a tight certificate of the network, and those of each later step are
-- bounds over the lists of the step before.
pub record IsStepCertificate (net : Network) (companions : List Companion) (changes : List Change) (count : ℕ)
    (high low : List (List ℤ)) : Type 0 where
  pub high_count : length high ≡ count
  pub low_count : length low ≡ count
  pub high_sizes : All (λ x. length x ≡ net.nodes) high
  pub low_sizes : All (λ x. length x ≡ net.nodes) low
  pub certificate : 0 < count → IsCertificate net (list_at high 0) (list_at low 0)
  pub tight : 0 < count → IsTight net (list_at high 0) (list_at low 0)
  pub high_bounds : (t : ℕ) → suc t < count
      → IsHighBound net companions (step_loads net changes (suc t)) (list_at high t) (list_at high (suc t))
  pub low_bounds : (t : ℕ) → suc t < count
      → IsLowBound net companions (step_loads net changes (suc t)) (list_at low t) (list_at low (suc t))

-- No network of the steps 1 to the last passes a limit, neither over the high list of the step before nor over the low one.
abbrev pub KeepStepLimits : Network → List Companion → List Change → ℕ → List (List ℤ) → List (List ℤ) → Type 0
KeepStepLimits net companions changes last high low =
    (t : ℕ) → t < last → (step_refusal net companions changes (suc t) (list_at high t) ≡ None)
    × (step_refusal net companions changes (suc t) (list_at low t) ≡ None)

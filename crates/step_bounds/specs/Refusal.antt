-- What refuses to go on at a step.
use Rattle.std.specs.Prelude.{◌≡◌, ◌⊎◌, ⊤, ℕ, suc, ◌≤◌, ℤ, List, Some}
use Rattle.grid_net.specs.declared.error.Quantity.{Quantity}
use Rattle.grid_net.specs.declared.error.NetError.TheVariants.{Range as NetRange}
use Rattle.grid_net.specs.Network.{Network}
use Rattle.step_bounds.specs.declared.companion.Companion.{Companion}
use Rattle.wave_file.specs.declared.record.Change.{Change}
use Rattle.step_bounds.specs.declared.error.StepError.{StepError}
use Rattle.step_bounds.specs.declared.error.StepError.TheVariants.{Range, Want}
use Rattle.step_bounds.specs.declared.steps.Steps.{Steps}
use Rattle.step_bounds.specs.StepNetwork.{step_refusal}
use Rattle.step_bounds.specs.StepCertificate.{list_at, IsStepCertificate, KeepStepLimits}

-- A quantity passes its limit at a step after 0, and none before it: there are lists of all steps before that are a step certificate
-- of them, no network of these steps is refused, and the network of the step, over the last of their high lists or the last of their
-- low lists, is refused for that quantity.
pub record IsLimitPassed (net : Network) (companions : List Companion) (changes : List Change) (last step : ℕ)
    (quantity : Quantity) (at : ℕ) (number : ℤ) (before : Steps) : Type 0 where
  pub t : ℕ
  pub is_next : step ≡ suc t
  pub is_step : step ≤ last
  pub certificate : IsStepCertificate net companions changes step before.high before.low
  pub earlier : KeepStepLimits net companions changes t before.high before.low
  pub refused : (step_refusal net companions changes step (list_at before.high t) ≡ Some (NetRange quantity at number))
      ⊎ (step_refusal net companions changes step (list_at before.low t) ≡ Some (NetRange quantity at number))

-- What an error of the steps tells. Memory may always be wanting.
abbrev pub IsStepRefusal : Network → List Companion → List Change → ℕ → StepError → Type 0
IsStepRefusal net companions changes last (Range step quantity at number before) =
    IsLimitPassed net companions changes last step quantity at number before
IsStepRefusal net companions changes last Want = ⊤

-- What a netlist is stepped with, and what that says of every solution over the steps.
use Rattle.std.specs.Prelude.{◌≡◌, ℕ, ◌+◌, ◌<◌, ◌≤◌, ℤ, List}
use Rattle.bound_check.specs.Certified.{LiesWithin, nanovolt}
use Rattle.short_merge.specs.declared.merged.Merged.{Merged}
use Rattle.spice_grid.specs.declared.named.Named.{Named}
use Rattle.step_bounds.specs.declared.steps.Steps.{Steps}
use Rattle.step_bounds.specs.StepCertificate.{list_at, IsStepCertificate, KeepStepLimits}
use Rattle.step_bounds.specs.SteppedSolution.{IsSteppedSolution}
use Rattle.step_texts.specs.Texts.{shown_by, steps_certificate, steps_report}
use Rattle.wave_file.specs.declared.record.Waves.{Waves}
use Rattle.stepping.specs.declared.stepped.Stepped.{Stepped}
use Rattle.stepping.specs.Inputs.{TwoTexts, GiveWaves, CanBeStepped, companions_of}

-- The network of the groups is stepped with the changes of its loads: the lists are a certificate of step 0 and of all steps after
-- it, no network of a step passes a limit, and the texts are those of the lists.
pub record StepsNetwork (merged : Merged) (waves : Waves) (time steps : ℕ) (lists : Steps) (stepped : Stepped)
    : Type 0 where
  pub certified : IsStepCertificate merged.net (companions_of merged time) waves.changes (steps + 1) lists.high lists.low
  pub limits : KeepStepLimits merged.net (companions_of merged time) waves.changes steps lists.high lists.low
  pub certificate : stepped.certificate ≡ steps_certificate merged.names lists.high lists.low
  pub report : stepped.report ≡ steps_report merged.names lists.high lists.low
  pub nodes : stepped.nodes ≡ merged.net.nodes
  pub steps_are : stepped.steps ≡ steps

-- A netlist is stepped: the texts give the network of the groups and the changes of its loads, the network can be stepped, and it
-- is stepped.
pub record StepsThrough (texts : TwoTexts) (time steps : ℕ) (named : Named) (merged : Merged) (waves : Waves) (lists : Steps)
    (stepped : Stepped) : Type 0 where
  pub gives : GiveWaves texts named merged waves
  pub can : CanBeStepped merged steps
  pub steps_network : StepsNetwork merged waves time steps lists stepped

-- Every solution of Ohm's and Kirchhoff's laws and of the backward Euler rule over the steps lies within the printed intervals: at
-- each step and node, over every common denominator q, whatever is drawn within the ranges of the loads of the step.
abbrev pub LieWithinSteps : ℕ → ℕ → Merged → Waves → Steps → Type 0
LieWithinSteps time steps merged waves lists =
    (q : ℕ) (p c k l : ℕ → ℕ → ℤ)
    → IsSteppedSolution merged.net (companions_of merged time) waves.changes steps q p c k l → (t node : ℕ) → t ≤ steps
    → node < merged.net.nodes
    → LiesWithin nanovolt q (p t node) (shown_by (list_at lists.high t) (list_at lists.low t) node)

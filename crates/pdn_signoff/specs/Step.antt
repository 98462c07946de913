-- What `step` answers, and what has to be so where it gives each answer.
use Rattle.std.specs.Prelude.{◌≡◌, ◌≤◌, ◌⊎◌, ℕ, List, [], ◌∷◌, Option, Some, length}
use Rattle.outside.specs.Files.{Holdings}
use Rattle.outside.specs.Whole.{longest_text}
use Rattle.answers.specs.declared.answer.Answer.{Answer}
use Rattle.answers.specs.declared.answer.Answer.TheVariants.{Want, Stepped}
use Rattle.output_files.specs.Outputs.{Texts, HoldEach}
use Rattle.short_merge.specs.declared.merged.Merged.{Merged}
use Rattle.spice_grid.specs.declared.named.Named.{Named}
use Rattle.step_bounds.specs.declared.steps.Steps.{Steps as Lists}
use Rattle.stepping.specs.declared.stepped.Stepped.{Stepped as Output}
use Rattle.stepping.specs.Inputs.{TwoTexts}
use Rattle.stepping.specs.Refusal.{PassesLimit, IsUnstepped}
use Rattle.stepping.specs.Stepped.{StepsThrough, LieWithinSteps}
use Rattle.wave_file.specs.declared.record.Waves.{Waves}
use Rattle.pdn_signoff.specs.declared.step_files.StepFiles.{StepFiles}
use Rattle.pdn_signoff.specs.Check.{FilesThen, IsTextOf}
use Rattle.pdn_signoff.specs.Runs.{RunsOver}
use Rattle.pdn_signoff.specs.Solve.{SolverThen}

-- The files that are read, in their order, and those that are written, in theirs.
abbrev pub step_files_read : StepFiles → List (List ℕ)
step_files_read f = f.netlist ∷ f.waves ∷ []

abbrev pub step_files_written : StepFiles → List (List ℕ)
step_files_written f = f.certificate ∷ f.report ∷ []

-- The outputs with the names of their files, in the order in which they are written.
abbrev pub step_texts : StepFiles → Output → Texts
step_texts f stepped = (f.certificate, stepped.certificate) ∷ (f.report, stepped.report) ∷ []

-- The two texts are those of the files that are read, each of at most as many bytes as an input may have.
pub record AreStepInputs (known : Option Holdings) (f : StepFiles) (t : TwoTexts) : Type 0 where
  pub netlist : IsTextOf known f.netlist t.netlist
  pub netlist_fits : length t.netlist ≤ longest_text
  pub waves : IsTextOf known f.waves t.waves
  pub waves_fits : length t.waves ≤ longest_text

-- The texts of the files are stepped into this output: the texts of lists that are a certificate of all steps; and every solution
-- over the steps lies within the intervals of the report.
pub record StepsFiles (known : Option Holdings) (f : StepFiles) (stepped : Output) : Type 0 where
  pub texts : TwoTexts
  pub are_inputs : AreStepInputs known f texts
  pub named : Named
  pub merged : Merged
  pub waves : Waves
  pub lists : Lists
  pub steps_through : StepsThrough texts f.time f.steps named merged waves lists stepped
  pub within : LieWithinSteps f.time f.steps merged waves lists

-- The texts of the files are known, and are not stepped, which the answer tells.
abbrev pub RefusesStepFiles : Option Holdings → StepFiles → Answer → Type 0
RefusesStepFiles known f answer =
    (t : TwoTexts) × AreStepInputs known f t × IsUnstepped f.netlist f.waves t f.time f.steps answer

-- The texts of the files are stepped into these outputs, and the answer tells the nodes and the steps.
abbrev pub MakesSteps : Option Holdings → StepFiles → Texts → Answer → Type 0
MakesSteps known f outputs answer =
    (stepped : Output) × StepsFiles known f stepped × (outputs ≡ step_texts f stepped)
    × (answer ≡ Stepped stepped.nodes stepped.steps)

-- Why `step` over these files gives an answer: the netlist and the waves are read, their texts are stepped, and then the
-- certificate and the report are written.
abbrev pub StepsBy : SolverThen → SolverThen → FilesThen → FilesThen → StepFiles → Answer → Type 0
StepsBy solver solver' before after f answer =
    RunsOver (step_files_read f) (RefusesStepFiles before.known f) (MakesSteps before.known f) solver solver' before after answer

-- What a netlist that is stepped leaves: the two outputs hold the texts that were made of what the two files held, every solution
-- over the steps lies within the intervals of the report, and all other files stay.
pub record LeavesStepped (f : StepFiles) (old new : Holdings) : Type 0 where
  pub stepped : Output
  pub steps : StepsFiles (Some old) f stepped
  pub files : HoldEach (step_texts f stepped) old new

-- The texts that the two files hold are these, and nothing refuses them.
pub record AreStepsAccepted (held : Holdings) (f : StepFiles) (t : TwoTexts) : Type 0 where
  pub texts : AreStepInputs (Some held) f t
  pub accepted : (answer : Answer) → IsUnstepped f.netlist f.waves t f.time f.steps answer → answer ≡ Want

-- The answer tells of lists: the texts are stepped with it, or a limit is passed at some step.
abbrev pub TellsOfLists : Option Holdings → StepFiles → Answer → Type 0
TellsOfLists known f answer =
    ((outputs : Texts) × MakesSteps known f outputs answer)
    ⊎ ((t : TwoTexts) × AreStepInputs known f t × PassesLimit t f.time f.steps answer)

-- Two answers of `step` are one, or each tells of lists that are a certificate of the steps before: that all steps are bounded, or
-- that a limit is passed at some step. Other lists may pass a limit at another step, or at none.
abbrev pub AreSteppedAlike : FilesThen → StepFiles → Answer → Answer → Type 0
AreSteppedAlike before f a b = (a ≡ b) ⊎ (TellsOfLists before.known f a × TellsOfLists before.known f b)

-- What follows from the cause of an answer of `step` and the way in which the run ends with it.
use Rattle.std.proofs.Common.{◌≡◌, ◌≢◌, ◌≤◌, ◌<◌, ◌⊎◌, inl, inr, ℕ, zero, suc, List, Option, Some, None, length, sym, ap, subst, ◌∙◌, arith}
use Rattle.outside.specs.Counts.{Rose}
use Rattle.outside.specs.Files.{Holdings, bytes_in}
use Rattle.outside.specs.Known.{WhereKnown}
use Rattle.outside.specs.Whole.{longest_text}
use Rattle.answers.specs.declared.answer.Answer.{Answer}
use Rattle.answers.specs.declared.answer.Answer.TheVariants.{Want}
use Rattle.answers.specs.Answer.{status_of}
use Rattle.command_words.specs.declared.command.Command.{Command}
use Rattle.command_words.specs.declared.command.Command.TheVariants.{Build, Check, Solve, Generate, Step, Signoff}
use Rattle.input_files.specs.Inputs.{name_at}
use Rattle.output_files.specs.Outputs.{Texts, HoldEach}
use Rattle.short_merge.specs.declared.merged.Merged.{Merged}
use Rattle.spice_grid.specs.declared.named.Named.{Named}
use Rattle.stepping.specs.declared.stepped.Stepped.{Stepped as Output}
use Rattle.stepping.specs.Inputs.{TwoTexts, GiveWaves, CanBeStepped}
use Rattle.stepping.specs.Refusal.{NamesLimit, PassesLimit, IsUnstepped}
use Rattle.wave_file.specs.declared.record.Waves.{Waves}
use Rattle.pdn_signoff.specs.declared.step_files.StepFiles.{StepFiles}
use Rattle.pdn_signoff.specs.Words.{IsStep}
use Rattle.pdn_signoff.specs.Check.{FilesThen, IsTooLong}
use Rattle.pdn_signoff.specs.Inputs.{IsFirstUnread}
use Rattle.pdn_signoff.specs.Solve.{SolverThen, IsKept}
use Rattle.pdn_signoff.specs.Step.{step_files_read, step_files_written, step_texts, AreStepInputs, StepsFiles, RefusesStepFiles, MakesSteps, StepsBy, LeavesStepped, AreStepsAccepted, TellsOfLists, AreSteppedAlike}
use Rattle.pdn_signoff.specs.Command.{SinkThen, IsCause, CanRise, ChangesAmong}
use Rattle.pdn_signoff.proofs.Causes.{Ran, AreLaws, unhindered, status_zero}
use Rattle.pdn_signoff.proofs.Running.{whole}
use Rattle.pdn_signoff.proofs.StepAnswers.{HaveSort, IsSteppedWhole, alone_stepped, zero_stepped}
use Rattle.pdn_signoff.proofs.Staged.{IsStage, one_of_all}

-- The laws of texts that are stepped, as they are handed in.
pub record AreSteppingLaws : Type 0 where
  pub refusal : (n w : List ℕ) (t : TwoTexts) (time steps : ℕ) (a b : Answer) → IsUnstepped n w t time steps a → IsUnstepped n w t time steps b → a ≢ Want → b ≢ Want → (a ≡ b) ⊎ (PassesLimit t time steps a × PassesLimit t time steps b)
  pub limit : (n w : List ℕ) (t : TwoTexts) (time steps : ℕ) (named : Named) (merged : Merged) (changes : Waves) (a : Answer) → GiveWaves t named merged changes → CanBeStepped merged steps → IsUnstepped n w t time steps a → a ≢ Want → NamesLimit merged changes time steps a

-- The words of `step` name four files and two numbers alone, and are no others.
abbrev files_of : StepFiles → Command → StepFiles
files_of f (Step n w t s c r) = record { netlist = n; waves = w; time = t; steps = s; certificate = c; report = r }
files_of f (Build a b c d e g h i j) = f
files_of f (Solve n c r) = f
files_of f (Check n c) = f
files_of f (Generate m s a b c d e) = f
files_of f (Signoff a b c d e g h i) = f

abbrev the_command : StepFiles → Command
the_command f = Step f.netlist f.waves f.time f.steps f.certificate f.report

same_step : AreLaws → (words : List (List ℕ)) (f f' : StepFiles) → IsStep words f → IsStep words f' → f ≡ f'
same_step laws words f f' a b = ap (files_of f) (laws.one_command words (the_command f) (the_command f') a b)

-- The cause of an answer to words of `step`.
pub record IsStepCause (solver solver' : SolverThen) (before after : FilesThen) (f : StepFiles) (answer : Answer) : Type 0 where
  pub why : ((answer ≡ Want) × IsKept before after) ⊎ StepsBy solver solver' before after f answer

pub step_cause : AreLaws → (words : List (List ℕ)) (solver solver' : SolverThen) (before after : FilesThen) (f : StepFiles) (answer : Answer) → IsStep words f → IsCause words solver solver' before after answer → IsStepCause solver solver' before after f answer
step_cause laws words solver solver' before after f answer is (inl (kept, inl want)) = record { why = inl (want, kept) }
step_cause laws words solver solver' before after f answer is (inl (kept, inr used)) = absurd (used.1.4 f is)
step_cause laws words solver solver' before after f answer is (inr (inl (n, c, is', kept, rest))) =
    let clash = laws.one_command words (Check n c) (the_command f) is' is in cc
step_cause laws words solver solver' before after f answer is (inr (inr (inl (n, c, r, is', why)))) =
    let clash = laws.one_command words (Solve n c r) (the_command f) is' is in cc
step_cause laws words solver solver' before after f answer is (inr (inr (inr (inl (number, side, files, is', why))))) =
    let clash = laws.one_command words (Generate number side files.lef files.cells files.def files.pdn files.bias) (the_command f) is' is in cc
step_cause laws words solver solver' before after f answer is (inr (inr (inr (inr (inl (g, is', why)))))) =
    let clash = laws.one_command words (Build g.lef g.cells g.def g.pdn g.bias g.out_def g.netlist g.certificate g.report) (the_command f) is' is in cc
step_cause laws words solver solver' before after f answer is (inr (inr (inr (inr (inr (inr (g, is', why))))))) =
    let clash = laws.one_command words (Signoff g.lef g.cells g.def g.wires g.bias g.netlist g.certificate g.report) (the_command f) is' is in cc
step_cause laws words solver solver' before after f answer is (inr (inr (inr (inr (inr (inl (f', is', why))))))) =
    record { why = inr (subst (λ (x : StepFiles). StepsBy solver solver' before after x answer) (same_step laws words f' f is' is) why) }

-- ---- the texts
abbrev the_texts : TwoTexts → TwoTexts
the_texts t = t

pub same_texts : (held : Holdings) (f : StepFiles) (a b : TwoTexts) → AreStepInputs (Some held) f a → AreStepInputs (Some held) f b → a ≡ b
same_texts held f a b one other =
    ap (λ (x : List ℕ). the_texts (record { netlist = x; waves = a.waves })) (one.netlist ∙ sym other.netlist)
    ∙ ap (λ (x : List ℕ). the_texts (record { netlist = b.netlist; waves = x })) (one.waves ∙ sym other.waves)

pub each_fits : (held : Holdings) (f : StepFiles) (t : TwoTexts) → AreStepInputs (Some held) f t → (place : ℕ) → place < 2 → length (bytes_in held (name_at (step_files_read f) place)) ≤ longest_text
each_fits held f t are zero below = subst (λ (y : List ℕ). length y ≤ longest_text) are.netlist are.netlist_fits
each_fits held f t are (suc zero) below = subst (λ (y : List ℕ). length y ≤ longest_text) are.waves are.waves_fits
each_fits held f t are (suc (suc n)) below = absurd (omega (arith, below))

-- ---- the end of the run
leaves : (f : StepFiles) (stepped : Output) (outputs : Texts) → outputs ≡ step_texts f stepped → (k l : Option Holdings) → StepsFiles k f stepped → WhereKnown (HoldEach outputs) k l → WhereKnown (LeavesStepped f) k l
leaves f stepped outputs are None None files holds = tt
leaves f stepped outputs are None (Some y) files holds = holds
leaves f stepped outputs are (Some x) None files holds = holds
leaves f stepped outputs are (Some x) (Some y) files holds = record { stepped = stepped; steps = files; files = subst (λ (t : Texts). HoldEach t x y) are holds }

module _ (laws : AreLaws) (sort : HaveSort) (words : List (List ℕ)) (solver solver' : SolverThen) (before after : FilesThen) (result : ℕ) (out out' : SinkThen) where
  -- No file changes but the two outputs.
  pub among_stepped : Ran words solver solver' before after result out out' → (f : StepFiles) → IsStep words f → WhereKnown (ChangesAmong (step_files_written f)) before.known after.known
  among_stepped (answer, cause, ends) f is =
      elim (step_cause laws words solver solver' before after f answer is cause).why [
        | inl want ↦ alone_stepped sort solver solver' before after f answer (inl (want.1, inr (inr (inr want.0))))
        | inr why ↦ alone_stepped sort solver solver' before after f answer why
      ]

  pub record IsSteppedRun (f : StepFiles) : Type 0 where
    pub answer : Answer
    pub is : IsSteppedWhole sort solver solver' before after f answer

  stepped_run : Ran words solver solver' before after result out out' → (f : StepFiles) → IsStep words f → result ≡ 0 → IsSteppedRun f
  stepped_run (answer, cause, ends) f is low =
      let e : status_of answer ≡ 0 = status_zero result out out' answer ends low in
      elim (step_cause laws words solver solver' before after f answer is cause).why [
        | inl want ↦ let ten : status_of answer ≡ 10 = ap status_of want.0 in absurd (omega arith)
        | inr why ↦ record { answer = answer; is = zero_stepped sort solver solver' before after f answer why e }
      ]

  -- After the status 0 the outputs hold what was made, and every solution over the steps lies within the report.
  pub stepped : Ran words solver solver' before after result out out' → (f : StepFiles) → IsStep words f → result ≡ 0 → WhereKnown (LeavesStepped f) before.known after.known
  stepped ran f is low =
      let run = stepped_run ran f is low in
      let (output, files, are, told) = run.is.made in leaves f output run.is.outputs are before.known after.known files run.is.written

  -- Then the solver was asked.
  pub asked_stepped : Ran words solver solver' before after result out out' → (f : StepFiles) → IsStep words f → result ≡ 0 → Rose solver.proposals solver'.proposals
  asked_stepped ran f is low = (stepped_run ran f is low).is.asked

  -- Texts that nothing refuses are stepped, where no call fails and memory lasts.
  pub completed_steps : Ran words solver solver' before after result out out' → (held : Holdings) (f : StepFiles) (t : TwoTexts) → before.known ≡ Some held → IsStep words f → AreStepsAccepted held f t → ¬ Rose before.counts.faults after.counts.faults → ¬ Rose out.faults out'.faults
      → (result ≡ 0) ⊎ (result ≡ 10)
  completed_steps (answer, cause, ends) held f t known is accepted calm calm_out =
      elim (unhindered result out out' answer ends calm_out) [
        | inr ten ↦ inr ten
        | inl e ↦ subst (λ r. (r ≡ 0) ⊎ (r ≡ 10)) (sym e) (elim (step_cause laws words solver solver' before after f answer is cause).why [
          | inl want ↦ inr (ap status_of want.0)
          | inr why ↦ by_whole answer (whole (step_files_read f) (RefusesStepFiles before.known f) (MakesSteps before.known f) solver solver' before after held known (each_fits held f t accepted.texts) none_refused calm answer why)
        ])
      ]
    where
      none_refused : (a : Answer) → RefusesStepFiles before.known f a → a ≡ Want
      none_refused a (t', are, why) =
          let here : AreStepInputs (Some held) f t' = subst (λ k. AreStepInputs k f t') known are in
          accepted.accepted a (subst (λ (x : TwoTexts). IsUnstepped f.netlist f.waves x f.time f.steps a) (same_texts held f t' t here accepted.texts) why)

      by_whole : (a : Answer) → (IsSteppedWhole sort solver solver' before after f a ⊎ (a ≡ Want)) → (status_of a ≡ 0) ⊎ (status_of a ≡ 10)
      by_whole a (inl w) = let (output, files, are, told) = w.made in inl (ap status_of told)
      by_whole a (inr want) = inr (ap status_of want)

-- ---- one answer
module _ (laws : AreSteppingLaws) (before after : FilesThen) (held : Holdings) (f : StepFiles) (known : before.known ≡ Some held) (can : CanRise after.counts) where
  -- The answers that come of the texts: these are refused, or they are stepped.
  pub record IsRefused (a : Answer) : Type 0 where
    pub some : a ≢ Want
    pub texts : TwoTexts
    pub are : AreStepInputs before.known f texts
    pub why : IsUnstepped f.netlist f.waves texts f.time f.steps a

  pub record IsMade (a : Answer) : Type 0 where
    pub outputs : Texts
    pub made : MakesSteps before.known f outputs a

  abbrev pub IsShort : Answer → Type 0
  IsShort a = IsRefused a ⊎ IsMade a

  one_text : (t t' : TwoTexts) → AreStepInputs before.known f t → AreStepInputs before.known f t' → t ≡ t'
  one_text t t' x y = same_texts held f t t' (subst (λ k. AreStepInputs k f t) known x) (subst (λ k. AreStepInputs k f t') known y)

  pub same_is_alike : (a b : Answer) → a ≡ b → AreSteppedAlike before f a b
  same_is_alike a b e = inl e

  one_refused : (a b : Answer) → IsRefused a → IsRefused b → AreSteppedAlike before f a b
  one_refused a b x y =
      let there = subst (λ t. IsUnstepped f.netlist f.waves t f.time f.steps b) (one_text y.texts x.texts y.are x.are) y.why in
      elim (laws.refusal f.netlist f.waves x.texts f.time f.steps a b x.why there x.some y.some) [
        | inl e ↦ inl e
        | inr both ↦ inr (inr (x.texts, x.are, both.0), inr (x.texts, x.are, both.1))
      ]

  one_made : (a b : Answer) → IsMade a → IsMade b → AreSteppedAlike before f a b
  one_made a b x y = inr (inl (x.outputs, x.made), inl (y.outputs, y.made))

  -- Texts that are stepped are refused for a limit alone.
  limit_of : (a b : Answer) → IsRefused a → IsMade b → TellsOfLists before.known f a
  limit_of a b x y =
      let (stepped, files, are, told) = y.made in
      let through = files.steps_through in
      let there = subst (λ t. IsUnstepped f.netlist f.waves t f.time f.steps a) (one_text x.texts files.texts x.are files.are_inputs) x.why in
      inr (
        files.texts,
        files.are_inputs,
        record {
          named = files.named;
          merged = files.merged;
          waves = files.waves;
          gives = through.gives;
          limit = laws.limit f.netlist f.waves files.texts f.time f.steps files.named files.merged files.waves a through.gives through.can there x.some;
        },
      )

  pub one_short : (a b : Answer) → IsShort a → IsShort b → AreSteppedAlike before f a b
  one_short a b (inl x) (inl y) = one_refused a b x y
  one_short a b (inl x) (inr y) = inr (limit_of a b x y, inl (y.outputs, y.made))
  one_short a b (inr x) (inl y) = inr (inl (x.outputs, x.made), limit_of b a y x)
  one_short a b (inr x) (inr y) = one_made a b x y

  pub no_long : (a : Answer) → IsShort a → (place : ℕ) → place < 2 → length (bytes_in held (name_at (step_files_read f) place)) ≤ longest_text
  no_long a (inl x) = each_fits held f x.texts (subst (λ k. AreStepInputs k f x.texts) known x.are)
  no_long a (inr x) = let (stepped, files, are, told) = x.made in each_fits held f files.texts (subst (λ k. AreStepInputs k f files.texts) known files.are_inputs)

  abbrev pub IsStepStage : Answer → Type 0
  IsStepStage = IsStage before after held (step_files_read f) known can (AreSteppedAlike before f) same_is_alike IsShort one_short no_long

  pub stage_of : (solver solver' : SolverThen) (a : Answer) → a ≢ Want → StepsBy solver solver' before after f a → IsStepStage a
  stage_of solver solver' a some (inl (kept, inl (file, place, told, first, fails))) = inl (record { file = file; told = told; fails = fails })
  stage_of solver solver' a some (inl (kept, inr (inl (file, place, told, none, first, long)))) =
      inr (inr (
        none,
        inl (record {
          file = file;
          told = told;
          place = place;
          first = subst (λ k. IsFirstUnread k (step_files_read f) file place) known first;
          long = subst (λ k. IsTooLong k file) known long;
        }),
      ))
  stage_of solver solver' a some (inl (kept, inr (inr (inl (none, (t, are, why)))))) = inr (inr (none, inr (inl (record { some = some; texts = t; are = are; why = why }))))
  stage_of solver solver' a some (inl (kept, inr (inr (inr want)))) = absurd (some want)
  stage_of solver solver' a some (inr m) =
      elim m.ends [
        | inl done ↦ inr (inr (done.1, inr (inr (record { outputs = m.outputs; made = subst (λ x. MakesSteps before.known f m.outputs x) (sym done.0) m.made }))))
        | inr (inl short) ↦ absurd (some short.0)
        | inr (inr (place, at, inl want)) ↦ absurd (some want)
        | inr (inr (place, at, inr (told, failed))) ↦ inr (inl (record { file = _; told = told; fails = failed }))
      ]

  pub one_step : (solver solver' : SolverThen) (a b : Answer) → a ≢ Want → b ≢ Want → StepsBy solver solver' before after f a → StepsBy solver solver' before after f b → AreSteppedAlike before f a b
  one_step solver solver' a b some_a some_b x y =
      one_of_all before after held (step_files_read f) known can (AreSteppedAlike before f) same_is_alike IsShort one_short no_long a b (stage_of solver solver' a some_a x) (stage_of solver solver' b some_b y)

pub stepped_alike : AreLaws → AreSteppingLaws → (words : List (List ℕ)) (solver solver' : SolverThen) (before after : FilesThen) (held : Holdings) (f : StepFiles) (a b : Answer) → before.known ≡ Some held → CanRise after.counts → IsStep words f
    → IsCause words solver solver' before after a → IsCause words solver solver' before after b → a ≢ Want → b ≢ Want → AreSteppedAlike before f a b
stepped_alike laws steps words solver solver' before after held f a b known can is x y some_a some_b =
    elim (step_cause laws words solver solver' before after f a is x).why [
      | inl want ↦ absurd (some_a want.0)
      | inr x_why ↦ elim (step_cause laws words solver solver' before after f b is y).why [
        | inl want ↦ absurd (some_b want.0)
        | inr y_why ↦ one_step steps before after held f known can solver solver' a b some_a some_b x_why y_why
      ]
    ]

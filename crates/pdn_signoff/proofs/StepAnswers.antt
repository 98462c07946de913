-- The answers of `step`, each with its cause.
use Rattle.std.proofs.Common.{◌≡◌, ◌≢◌, ◌≤◌, ◌<◌, inl, inr, ℕ, List, [], All, Option, IfSome, length, get_or, refl, sym, ap, subst, ◌∙◌, arith}
use Rattle.std.proofs.lemmas.List.{length-map}
use Rattle.std.specs.Borrow.{Bor}
use Rattle.outside.specs.Counts.{Rose}
use Rattle.outside.specs.Files.{Holdings}
use Rattle.outside.specs.Whole.{longest_text}
use Rattle.input_files.specs.Inputs.{names_of, AreTextsOf}
use Rattle.outside.specs.Known.{WhereKnown}
use Rattle.answers.specs.declared.answer.Answer.{Answer}
use Rattle.answers.specs.declared.answer.Answer.TheVariants.{Usage, Want, ReadFault, WriteFault, TooLong, Refused, NoGrid, Range, TooManySteps, PadConflict, FloatingCapacitor, Unsupplied, Built, SignedOff, Generated, Solved, Stepped, Certified, NotCertified}
use Rattle.answers.specs.Answer.{status_of}
use Rattle.output_files.specs.Outputs.{Texts, names}
use Rattle.stepping.specs.declared.stepped.Stepped.{Stepped as Output}
use Rattle.stepping.specs.Inputs.{TwoTexts}
use Rattle.stepping.specs.Refusal.{IsUnstepped, IsToUnstepped}
use Rattle.pdn_signoff.specs.declared.step_files.StepFiles.{StepFiles}
use Rattle.pdn_signoff.specs.Check.{FilesThen, NoneFailed}
use Rattle.pdn_signoff.specs.Solve.{SolverThen}
use Rattle.pdn_signoff.specs.Step.{step_files_read, step_files_written, step_texts, AreStepInputs, StepsFiles, RefusesStepFiles, MakesSteps, StepsBy}
use Rattle.pdn_signoff.specs.inside.Step.{WritesStepped}
use Rattle.pdn_signoff.proofs.Reading.{text_known}
use Rattle.pdn_signoff.specs.Command.{ChangesAmong}
use Rattle.pdn_signoff.proofs.Running.{IsWritten, want_too, files_alone, not_status, none_failed, low_written}

-- ---- the texts that were read
pub two_texts : (f : StepFiles) (read : List (Bor (List ℕ))) (texts : List (List ℕ)) → names_of read ≡ step_files_read f → length texts ≡ length read → length texts ≡ 2
two_texts f read texts are count = count ∙ sym (length-map read (λ (n : Bor (List ℕ)). n.now)) ∙ ap length are

pub texts_read : (known : Option Holdings) (f : StepFiles) (read : List (Bor (List ℕ))) (texts : List (List ℕ)) → names_of read ≡ step_files_read f → length texts ≡ length read → IfSome known (λ held. AreTextsOf held (names_of read) texts) → All (λ text. length text ≤ longest_text) texts
    → AreStepInputs known f (record { netlist = get_or texts 0 []; waves = get_or texts 1 [] })
texts_read known f read texts are count texts_are fit =
    let here = subst (λ (all : List (List ℕ)). IfSome known (λ held. AreTextsOf held all texts)) are texts_are in
    let two : length texts ≡ 2 = two_texts f read texts are count in
    record {
      netlist = text_known known (step_files_read f) texts here 0 (omega arith) f.netlist refl;
      netlist_fits = fit 0 [] (omega (arith, two));
      waves = text_known known (step_files_read f) texts here 1 (omega arith) f.waves refl;
      waves_fits = fit 1 [] (omega (arith, two));
    }

-- ---- the statuses of texts that are not stepped
abbrev pub HaveSort : Type 0
HaveSort = (n w : List ℕ) (t : TwoTexts) (time steps : ℕ) (a : Answer) → IsUnstepped n w t time steps a → IsToUnstepped a

high_status : (a : Answer) → IsToUnstepped a → 3 < status_of a
high_status Usage x = absurd x
high_status Want x = omega arith
high_status (ReadFault file) x = absurd x
high_status (WriteFault file) x = absurd x
high_status (TooLong file) x = absurd x
high_status (Refused file place kind) x = omega arith
high_status (NoGrid refusal) x = absurd x
high_status (Range quantity at number) x = omega arith
high_status (TooManySteps number) x = omega arith
high_status (PadConflict node first second) x = omega arith
high_status (FloatingCapacitor node) x = omega arith
high_status (Unsupplied node) x = omega arith
high_status (Built built) x = absurd x
high_status Generated x = absurd x
high_status (Solved nodes resistors sweeps) x = absurd x
high_status (Stepped nodes steps) x = absurd x
high_status (SignedOff numbers) x = absurd x
high_status (Certified nodes) x = absurd x
high_status (NotCertified node side found) x = absurd x

-- ---- the outputs
module _ (solver solver' : SolverThen) (before after : FilesThen) (f : StepFiles) where
  -- The outputs were written, or one of them was not.
  pub outputs_written : (stepped : Output) → StepsFiles before.known f stepped → Rose solver.proposals solver'.proposals → (answer : Answer) → WritesStepped before after f stepped answer → StepsBy solver solver' before after f answer
  outputs_written stepped files asked answer why =
      inr (record {
        outputs = step_texts f stepped;
        done = Stepped stepped.nodes stepped.steps;
        made = (stepped, files, refl, refl);
        asked = asked;
        ends = elim why [ inl stops ↦ inr (inr stops) | inr written ↦ inl written ];
      })

module _ (sort : HaveSort) (solver solver' : SolverThen) (before after : FilesThen) (f : StepFiles) where
  refused_high : (n : ℕ) → n < 3 → (a : Answer) → RefusesStepFiles before.known f a → status_of a ≢ n
  refused_high n low a (t, are, why) e = let high = high_status a (sort f.netlist f.waves t f.time f.steps a why) in omega (arith, high, e, low)

  made_zero : (outputs : Texts) (a : Answer) → MakesSteps before.known f outputs a → status_of a ≢ 2
  made_zero outputs a (stepped, files, are, told) e = let z : status_of a ≡ 0 = ap status_of told in omega (arith, z, e)

  named : (outputs : Texts) (a : Answer) → MakesSteps before.known f outputs a → names outputs ≡ step_files_written f
  named outputs a (stepped, files, are, told) = ap names are

  pub no_usage_stepped : (answer : Answer) → StepsBy solver solver' before after f answer → status_of answer ≢ 2
  no_usage_stepped = not_status (step_files_read f) (RefusesStepFiles before.known f) (MakesSteps before.known f) solver solver' before after 2 (omega arith) (refused_high 2 (omega arith)) made_zero

  pub none_failed_stepped : (answer : Answer) → StepsBy solver solver' before after f answer → status_of answer ≢ 3 → status_of answer ≢ 10 → NoneFailed before after
  none_failed_stepped = none_failed (step_files_read f) (RefusesStepFiles before.known f) (MakesSteps before.known f) solver solver' before after

  pub alone_stepped : (answer : Answer) → StepsBy solver solver' before after f answer → WhereKnown (ChangesAmong (step_files_written f)) before.known after.known
  alone_stepped = files_alone (step_files_read f) (RefusesStepFiles before.known f) (MakesSteps before.known f) solver solver' before after (step_files_written f) named

  abbrev pub IsSteppedWhole : Answer → Type 0
  IsSteppedWhole = IsWritten (step_files_read f) (RefusesStepFiles before.known f) (MakesSteps before.known f) solver solver' before after

  pub zero_stepped : (answer : Answer) → StepsBy solver solver' before after f answer → status_of answer ≡ 0 → IsSteppedWhole answer
  zero_stepped = low_written (step_files_read f) (RefusesStepFiles before.known f) (MakesSteps before.known f) solver solver' before after 0 (omega arith) (refused_high 0 (omega arith))

pub want_stepped : (solver solver' : SolverThen) (before after : FilesThen) (f : StepFiles) (answer : Answer) → StepsBy solver solver' before after f answer → StepsBy solver solver' before after f Want
want_stepped solver solver' before after f = want_too (step_files_read f) (RefusesStepFiles before.known f) (MakesSteps before.known f) solver solver' before after

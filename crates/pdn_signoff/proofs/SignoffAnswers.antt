-- The answers of `signoff`, each with its cause.
use Rattle.std.proofs.Common.{◌≡◌, ◌≢◌, ◌≤◌, ◌<◌, ◌⊎◌, inl, inr, ℕ, ◌==◌, ◌&&◌, Bool, true, false, if◌then◌else◌, List, [], All, Option, IfSome, length, get_or, refl, sym, ap, subst, ◌∙◌, arith}
use Rattle.std.proofs.lemmas.List.{length-map}
use Rattle.std.specs.Borrow.{Bor}
use Rattle.outside.specs.Counts.{Rose}
use Rattle.outside.specs.Files.{Holdings}
use Rattle.outside.specs.Known.{WhereKnown}
use Rattle.outside.specs.Whole.{longest_text}
use Rattle.answers.specs.declared.answer.Answer.{Answer}
use Rattle.answers.specs.declared.answer.Answer.TheVariants.{Usage, Want, ReadFault, WriteFault, TooLong, Refused, NoGrid, Range, TooManySteps, PadConflict, FloatingCapacitor, Unsupplied, Built, SignedOff, Generated, Solved, Stepped, Certified, NotCertified}
use Rattle.answers.specs.declared.built.Built.{Built as Numbers}
use Rattle.answers.specs.Answer.{status_of}
use Rattle.building.specs.Refusal.{IsToDesign}
use Rattle.grid_signing.specs.declared.signed.SignedGrid.{SignedGrid}
use Rattle.input_files.specs.Inputs.{names_of, AreTextsOf}
use Rattle.output_files.specs.Outputs.{Texts, names}
use Rattle.signing_off.specs.Inputs.{WiredTexts}
use Rattle.signing_off.specs.Refusal.{IsUnsigned}
use Rattle.pdn_signoff.specs.declared.signoff_files.SignoffFiles.{SignoffFiles}
use Rattle.pdn_signoff.specs.Build.{IsInput}
use Rattle.pdn_signoff.specs.Check.{FilesThen, NoneFailed}
use Rattle.pdn_signoff.specs.Command.{ChangesAmong}
use Rattle.pdn_signoff.specs.Signoff.{signoff_files_read, signoff_files_written, signed_texts, AreWiredInputs, SignsFiles, RefusesWiredFiles, MakesSigned, SignsOff}
use Rattle.pdn_signoff.specs.Solve.{SolverThen}
use Rattle.pdn_signoff.specs.inside.Signoff.{wired_of, WritesSigned}
use Rattle.pdn_signoff.proofs.Reading.{text_known}
use Rattle.pdn_signoff.proofs.Running.{IsWritten, want_too, files_alone, not_status, none_failed, low_written}

-- ---- the texts that were read
pub five_texts : (f : SignoffFiles) (read : List (Bor (List ℕ))) (texts : List (List ℕ)) → names_of read ≡ signoff_files_read f → length texts ≡ length read → length texts ≡ 5
five_texts f read texts are count = count ∙ sym (length-map read (λ (n : Bor (List ℕ)). n.now)) ∙ ap length are

module _ (known : Option Holdings) (f : SignoffFiles) (read : List (Bor (List ℕ))) (texts : List (List ℕ)) (are : names_of read ≡ signoff_files_read f) (count : length texts ≡ length read) (texts_are : IfSome known (λ held. AreTextsOf held (names_of read) texts))
    (fit : All (λ text. length text ≤ longest_text) texts) where
  input_known : (i : ℕ) → i < 5 → (file : List ℕ) → file ≡ get_or (signoff_files_read f) i [] → IsInput known file (record { file = file; text = get_or texts i [] })
  input_known i below file is =
      let here = subst (λ (all : List (List ℕ)). IfSome known (λ held. AreTextsOf held all texts)) are texts_are in
      record {
        file_is = refl;
        text_is = text_known known (signoff_files_read f) texts here i below file is;
        fits = fit i [] (omega (arith, below, five_texts f read texts are count));
      }

  pub texts_read : AreWiredInputs known f (wired_of f texts)
  texts_read = record {
    lef = input_known 0 (omega arith) f.lef refl;
    cells = input_known 1 (omega arith) f.cells refl;
    def = input_known 2 (omega arith) f.def refl;
    wires = input_known 3 (omega arith) f.wires refl;
    bias = input_known 4 (omega arith) f.bias refl;
  }

-- ---- the statuses of texts of which nothing is signed off
abbrev pub AreToWiring : Type 0
AreToWiring = (t : WiredTexts) (a : Answer) → IsUnsigned t a → IsToDesign a

high_status : (a : Answer) → IsToDesign a → 3 < status_of a
high_status Usage x = absurd x
high_status Want x = omega arith
high_status (ReadFault file) x = absurd x
high_status (WriteFault file) x = absurd x
high_status (TooLong file) x = absurd x
high_status (Refused file place kind) x = omega arith
high_status (NoGrid refusal) x = omega arith
high_status (Range quantity at number) x = omega arith
high_status (TooManySteps number) x = absurd x
high_status (PadConflict node first second) x = absurd x
high_status (FloatingCapacitor node) x = absurd x
high_status (Unsupplied node) x = omega arith
high_status (Built built) x = absurd x
high_status (SignedOff numbers) x = absurd x
high_status Generated x = absurd x
high_status (Solved nodes resistors sweeps) x = absurd x
high_status (Stepped nodes steps) x = absurd x
high_status (Certified nodes) x = absurd x
high_status (NotCertified node side found) x = absurd x

-- A grid that is signed off has the status 0 or 1.
abbrev either_status : Bool → ℕ
either_status b = if b then 0 else 1

one_of_two : (b : Bool) → (either_status b ≡ 0) ⊎ (either_status b ≡ 1)
one_of_two true = inl refl
one_of_two false = inr refl

pub low_status : (numbers : Numbers) → (status_of (SignedOff numbers) ≡ 0) ⊎ (status_of (SignedOff numbers) ≡ 1)
low_status numbers = one_of_two ((numbers.unsafe_ == 0) && (numbers.open == 0))

-- ---- the outputs
module _ (solver solver' : SolverThen) (before after : FilesThen) (f : SignoffFiles) where
  -- The outputs were written, or one of them was not.
  pub outputs_written : (signed : SignedGrid) → SignsFiles solver.told before.known f signed → Rose solver.proposals solver'.proposals → (answer : Answer) → WritesSigned before after f signed answer → SignsOff solver solver' before after f answer
  outputs_written signed files asked answer why =
      inr (record {
        outputs = signed_texts f signed;
        done = SignedOff signed.numbers;
        made = (signed, files, refl, refl);
        asked = asked;
        ends = elim why [ inl stops ↦ inr (inr stops) | inr written ↦ inl written ];
      })

  named : (outputs : Texts) (a : Answer) → MakesSigned solver.told before.known f outputs a → names outputs ≡ signoff_files_written f
  named outputs a (signed, files, are, told) = ap names are

  pub none_failed_signed : (answer : Answer) → SignsOff solver solver' before after f answer → status_of answer ≢ 3 → status_of answer ≢ 10 → NoneFailed before after
  none_failed_signed = none_failed (signoff_files_read f) (RefusesWiredFiles before.known f) (MakesSigned solver.told before.known f) solver solver' before after

  pub alone_signed : (answer : Answer) → SignsOff solver solver' before after f answer → WhereKnown (ChangesAmong (signoff_files_written f)) before.known after.known
  alone_signed = files_alone (signoff_files_read f) (RefusesWiredFiles before.known f) (MakesSigned solver.told before.known f) solver solver' before after (signoff_files_written f) named

  abbrev pub IsSignedWhole : Answer → Type 0
  IsSignedWhole = IsWritten (signoff_files_read f) (RefusesWiredFiles before.known f) (MakesSigned solver.told before.known f) solver solver' before after

  pub want_signed_off : (answer : Answer) → SignsOff solver solver' before after f answer → SignsOff solver solver' before after f Want
  want_signed_off = want_too (signoff_files_read f) (RefusesWiredFiles before.known f) (MakesSigned solver.told before.known f) solver solver' before after

module _ (to_wiring : AreToWiring) (solver solver' : SolverThen) (before after : FilesThen) (f : SignoffFiles) where
  refused_high : (n : ℕ) → n < 3 → (a : Answer) → RefusesWiredFiles before.known f a → status_of a ≢ n
  refused_high n low a (t, are, why) e = let high = high_status a (to_wiring t a why) in omega (arith, high, e, low)

  made_low : (outputs : Texts) (a : Answer) → MakesSigned solver.told before.known f outputs a → status_of a ≢ 2
  made_low outputs a (signed, files, are, told) e =
      let same : status_of a ≡ status_of (SignedOff signed.numbers) = ap status_of told in
      elim (low_status signed.numbers) [ inl z ↦ omega (arith, same, z, e) | inr o ↦ omega (arith, same, o, e) ]

  pub no_usage_signed : (answer : Answer) → SignsOff solver solver' before after f answer → status_of answer ≢ 2
  no_usage_signed =
      not_status (signoff_files_read f) (RefusesWiredFiles before.known f) (MakesSigned solver.told before.known f) solver solver' before after 2 (omega arith) (refused_high 2 (omega arith)) made_low

  pub low_signed : (answer : Answer) → SignsOff solver solver' before after f answer → (status_of answer ≡ 0) ⊎ (status_of answer ≡ 1) → IsSignedWhole solver solver' before after f answer
  low_signed answer why (inl z) =
      low_written (signoff_files_read f) (RefusesWiredFiles before.known f) (MakesSigned solver.told before.known f) solver solver' before after 0 (omega arith) (refused_high 0 (omega arith)) answer why z
  low_signed answer why (inr o) =
      low_written (signoff_files_read f) (RefusesWiredFiles before.known f) (MakesSigned solver.told before.known f) solver solver' before after 1 (omega arith) (refused_high 1 (omega arith)) answer why o

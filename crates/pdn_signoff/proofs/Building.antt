-- The answers of `build`, each with its cause.
use Rattle.std.proofs.Common.{◌≡◌, ◌≢◌, ◌≤◌, ◌<◌, ◌⊎◌, inl, inr, ℕ, ◌==◌, Bool, true, false, ◌&&◌, if◌then◌else◌, List, [], All, Option, IfSome, length, get_or, refl, sym, ap, subst, ◌∙◌, arith}
use Rattle.std.proofs.lemmas.List.{length-map}
use Rattle.outside.specs.Counts.{Rose}
use Rattle.outside.specs.Files.{Holdings}
use Rattle.outside.specs.Known.{WhereKnown}
use Rattle.outside.specs.Whole.{longest_text}
use Rattle.outside.specs.declared.whole.ReadError.{ReadError}
use Rattle.outside.specs.declared.whole.ReadError.TheVariants as reading
use Rattle.answers.specs.declared.answer.Answer.{Answer}
use Rattle.answers.specs.declared.answer.Answer.TheVariants.{Usage, Want, ReadFault, WriteFault, TooLong, Refused, NoGrid, Range, TooManySteps, PadConflict, FloatingCapacitor, Unsupplied, Built, SignedOff, Generated, Solved, Stepped, Certified, NotCertified}
use Rattle.answers.specs.declared.built.Built.{Built as Numbers}
use Rattle.answers.specs.Answer.{status_of, built_status}
use Rattle.building.specs.declared.outputs.Outputs.{Outputs}
use Rattle.building.specs.Inputs.{FiveTexts}
use Rattle.building.specs.Refusal.{IsToDesign}
use Rattle.macro_building.specs.Refusal.{IsUnbuilt}
use Rattle.std.specs.Borrow.{Bor}
use Rattle.input_files.specs.Inputs.{names_of, AreTextsOf}
use Rattle.output_files.specs.Outputs.{names, text_at}
use Rattle.pdn_signoff.specs.declared.build_files.BuildFiles.{BuildFiles}
use Rattle.pdn_signoff.specs.Check.{FilesThen, NoneFailed, IsTooLong}
use Rattle.pdn_signoff.specs.Solve.{SolverThen, IsKept, WriteFailed}
use Rattle.pdn_signoff.specs.Outputs.{AreWritten, Stops}
use Rattle.pdn_signoff.specs.Build.{files_read, files_written, output_texts, IsInput, AreInputs, BuildsFiles, Builds}
use Rattle.pdn_signoff.specs.Inputs.{IsFirstUnread, FailsToRead}
use Rattle.pdn_signoff.specs.Command.{ChangesAmong}
use Rattle.pdn_signoff.specs.inside.Check.{unread_answer}
use Rattle.pdn_signoff.specs.inside.Build.{AreRead, five_of, WritesBuilt}
use Rattle.pdn_signoff.proofs.Reading.{text_known}
use Rattle.pdn_signoff.proofs.Stopping.{stopped_alone, written_alone, kept_alone}

-- The names of the outputs are those of the files that are written.
names_are : (f : BuildFiles) (outputs : Outputs) → names (output_texts f outputs) ≡ files_written f
names_are f outputs = refl

-- ---- the texts that were read
input_known : (known : Option Holdings) (f : BuildFiles) (texts : List (List ℕ)) → AreRead known f texts → (i : ℕ) → i < 5 → (file : List ℕ) → file ≡ get_or (files_read f) i [] → IsInput known file (record { file = file; text = get_or texts i [] })
input_known known f texts are i below file is = record {
  file_is = refl;
  text_is = text_known known (files_read f) texts are.texts_are i below file is;
  fits = are.fit i [] (subst (λ n. i < n) (sym are.count) below);
}

pub inputs_known : (known : Option Holdings) (f : BuildFiles) (texts : List (List ℕ)) → AreRead known f texts → AreInputs known f (five_of f texts)
inputs_known known f texts are = record {
  lef = input_known known f texts are 0 (omega arith) f.lef refl;
  cells = input_known known f texts are 1 (omega arith) f.cells refl;
  def = input_known known f texts are 2 (omega arith) f.def refl;
  pdn = input_known known f texts are 3 (omega arith) f.pdn refl;
  bias = input_known known f texts are 4 (omega arith) f.bias refl;
}

-- A grid that is built has the status 0 or 1.
abbrev either_status : Bool → ℕ
either_status b = if b then 0 else 1

one_of_two : (b : Bool) → (either_status b ≡ 0) ⊎ (either_status b ≡ 1)
one_of_two true = inl refl
one_of_two false = inr refl

pub low_status : (numbers : Numbers) → (status_of (Built numbers) ≡ 0) ⊎ (status_of (Built numbers) ≡ 1)
low_status numbers = one_of_two ((numbers.unsafe_ == 0) && (numbers.open == 0))

-- The texts that were read.
pub are_read : (known : Option Holdings) (f : BuildFiles) (read : List (Bor (List ℕ))) (texts : List (List ℕ)) → names_of read ≡ files_read f → length texts ≡ length read → IfSome known (λ held. AreTextsOf held (names_of read) texts) → All (λ text. length text ≤ longest_text) texts
    → AreRead known f texts
are_read known f read texts are count texts_are fit = record {
  count = count ∙ sym (length-map read (λ (n : Bor (List ℕ)). n.now)) ∙ ap length are;
  texts_are = subst (λ (all : List (List ℕ)). IfSome known (λ held. AreTextsOf held all texts)) are texts_are;
  fit = fit;
}

module _ (solver solver' : SolverThen) (before after : FilesThen) (f : BuildFiles) where
  abbrev pub Cause : Answer → Type 0
  Cause answer = Builds solver solver' before after f answer

  -- A file was not read.
  of_error : IsKept before after → (e : ReadError) (file : List ℕ) (place : ℕ) → IsFirstUnread before.known (files_read f) file place → (e ≡ reading.ReadFault → FailsToRead before after file) → (e ≡ reading.TooLong → IsTooLong before.known file) → (e ≡ reading.TooLong → NoneFailed before after)
      → Cause (unread_answer e file)
  of_error kept reading.ReadFault file place first fault long calm = (kept, (place, first, fault refl))
  of_error kept reading.TooLong file place first fault long calm = (kept, calm refl, (place, first, long refl))
  of_error kept reading.Want file place first fault long calm = inl kept

  pub file_unread : IsKept before after → (e : ReadError) (file : List ℕ) (place : ℕ) → IsFirstUnread before.known (files_read f) file place → (e ≡ reading.ReadFault → FailsToRead before after file) → (e ≡ reading.TooLong → IsTooLong before.known file) → (e ≡ reading.TooLong → NoneFailed before after)
      → (answer : Answer) → ((answer ≡ Want) ⊎ (answer ≡ unread_answer e file)) → Cause answer
  file_unread kept e file place first fault long calm answer (inl want) = subst Cause (sym want) (inl kept)
  file_unread kept e file place first fault long calm answer (inr told) = subst Cause (sym told) (of_error kept e file place first fault long calm)

  -- Nothing is built of the texts.
  pub texts_refused : IsKept before after → NoneFailed before after → (t : FiveTexts) → AreInputs before.known f t → (answer : Answer) → IsToDesign answer → IsUnbuilt t answer → Cause answer
  texts_refused kept calm t are Usage sort why = sort
  texts_refused kept calm t are Want sort why = inl kept
  texts_refused kept calm t are (ReadFault file) sort why = absurd sort
  texts_refused kept calm t are (WriteFault file) sort why = absurd sort
  texts_refused kept calm t are (TooLong file) sort why = absurd sort
  texts_refused kept calm t are (Refused file place kind) sort why = (kept, calm, (t, are, why))
  texts_refused kept calm t are (NoGrid words) sort why = (kept, calm, (t, are, why))
  texts_refused kept calm t are (Range quantity at number) sort why = (kept, calm, (t, are, why))
  texts_refused kept calm t are (PadConflict node first second) sort why = sort
  texts_refused kept calm t are (Unsupplied node) sort why = (kept, calm, (t, are, why))
  texts_refused kept calm t are (Built numbers) sort why = absurd sort
  texts_refused kept calm t are Generated sort why = sort
  texts_refused kept calm t are (FloatingCapacitor node) sort why = sort
  texts_refused kept calm t are (TooManySteps number) sort why = sort
  texts_refused kept calm t are (Stepped nodes steps) sort why = sort
  texts_refused kept calm t are (SignedOff numbers) sort why = sort
  texts_refused kept calm t are (Solved nodes resistors sweeps) sort why = sort
  texts_refused kept calm t are (Certified nodes) sort why = sort
  texts_refused kept calm t are (NotCertified node side found) sort why = sort

  -- The outputs were written, or one of them was not.
  not_written : (outputs : Outputs) → BuildsFiles solver.told before.known f outputs → (answer : Answer) → Stops before after (output_texts f outputs) answer → Cause answer
  not_written outputs builds answer (place, at, inl want) = subst Cause (sym want) (inr (outputs, builds, inl (place, at)))
  not_written outputs builds answer (place, at, inr (told, failed)) = subst Cause (sym told) (outputs, builds, (place, at, inr (refl, failed)))

  pub outputs_written : (outputs : Outputs) → BuildsFiles solver.told before.known f outputs → Rose solver.proposals solver'.proposals → (answer : Answer) → WritesBuilt before after f outputs answer → Cause answer
  outputs_written outputs builds asked answer (inl stops) = not_written outputs builds answer stops
  outputs_written outputs builds asked answer (inr (told, calm, written)) = subst Cause (sym told) (outputs, builds, refl, calm, asked, written)

  -- ---- want of memory
  pub want_built : (answer : Answer) → Cause answer → Cause Want
  want_built Usage why = absurd why
  want_built Want why = why
  want_built (ReadFault file) why = inl why.0
  want_built (WriteFault file) (outputs, builds, (place, at, either)) = inr (outputs, builds, inl (place, at))
  want_built (TooLong file) why = inl why.0
  want_built (Refused file place kind) why = inl why.0
  want_built (NoGrid words) why = inl why.0
  want_built (Range quantity at number) why = inl why.0
  want_built (PadConflict node first second) why = absurd why
  want_built (Unsupplied node) why = inl why.0
  want_built (Built numbers) (outputs, builds, same, calm, asked, written) = inr (outputs, builds, inr written)
  want_built Generated why = absurd why
  want_built (FloatingCapacitor node) why = absurd why
  want_built (TooManySteps number) why = absurd why
  want_built (Stepped nodes steps) why = absurd why
  want_built (SignedOff numbers) why = absurd why
  want_built (Solved nodes resistors sweeps) why = absurd why
  want_built (Certified nodes) why = absurd why
  want_built (NotCertified node side found) why = absurd why

  -- ---- no other file changes
  pub kept_among : IsKept before after → WhereKnown (ChangesAmong (files_written f)) before.known after.known
  kept_among kept = kept_alone (files_written f) before.known after.known kept

  outputs_alone : Cause Want → WhereKnown (ChangesAmong (files_written f)) before.known after.known
  outputs_alone (inl kept) = kept_among kept
  outputs_alone (inr (outputs, builds, inl (place, (below, stops)))) = stopped_alone (output_texts f outputs) place below before.known after.known stops
  outputs_alone (inr (outputs, builds, inr written)) = written_alone (output_texts f outputs) before.known after.known written

  pub files_alone : (answer : Answer) → Cause answer → WhereKnown (ChangesAmong (files_written f)) before.known after.known
  files_alone answer why = outputs_alone (want_built answer why)

  -- ---- the status
  two_statuses : (numbers : Numbers) (n : ℕ) → 1 < n → status_of (Built numbers) ≢ n
  two_statuses numbers n above e = elim (low_status numbers) [ inl z ↦ omega (arith, z, e, above) | inr o ↦ omega (arith, o, e, above) ]

  -- A write of the file failed that the answer names.
  pub failed_write : (outputs : Outputs) (file : List ℕ) → Stops before after (output_texts f outputs) (WriteFault file) → WriteFailed before after file
  failed_write outputs file (place, at, inl want) = let clash : WriteFault file ≡ Want = want in cc
  failed_write outputs file (place, at, inr (told, failed)) =
      let same : file ≡ (text_at (output_texts f outputs) place).0 = cc in subst (WriteFailed before after) (sym same) failed

  pub no_usage_built : (answer : Answer) → Cause answer → status_of answer ≢ 2
  no_usage_built Usage why e = absurd why
  no_usage_built Want why e = omega arith
  no_usage_built (ReadFault file) why e = omega arith
  no_usage_built (WriteFault file) why e = omega arith
  no_usage_built (TooLong file) why e = omega arith
  no_usage_built (Refused file place kind) why e = omega arith
  no_usage_built (NoGrid words) why e = omega arith
  no_usage_built (Range quantity at number) why e = omega arith
  no_usage_built (PadConflict node first second) why e = absurd why
  no_usage_built (Unsupplied node) why e = omega arith
  no_usage_built (Built numbers) why e = two_statuses numbers 2 (omega arith) e
  no_usage_built Generated why e = absurd why
  no_usage_built (FloatingCapacitor node) why e = absurd why
  no_usage_built (TooManySteps number) why e = absurd why
  no_usage_built (Stepped nodes steps) why e = absurd why
  no_usage_built (SignedOff numbers) why e = absurd why
  no_usage_built (Solved nodes resistors sweeps) why e = absurd why
  no_usage_built (Certified nodes) why e = absurd why
  no_usage_built (NotCertified node side found) why e = absurd why

  pub none_failed_built : (answer : Answer) → Cause answer → status_of answer ≢ 3 → status_of answer ≢ 10 → NoneFailed before after
  none_failed_built Usage why fault want = absurd why
  none_failed_built Want why fault want = absurd (want refl)
  none_failed_built (ReadFault file) why fault want = absurd (fault refl)
  none_failed_built (WriteFault file) why fault want = absurd (fault refl)
  none_failed_built (TooLong file) why fault want = why.1
  none_failed_built (Refused file place kind) why fault want = why.1
  none_failed_built (NoGrid words) why fault want = why.1
  none_failed_built (Range quantity at number) why fault want = why.1
  none_failed_built (PadConflict node first second) why fault want = absurd why
  none_failed_built (Unsupplied node) why fault want = why.1
  none_failed_built (Built numbers) why fault want = why.3
  none_failed_built Generated why fault want = absurd why
  none_failed_built (FloatingCapacitor node) why fault want = absurd why
  none_failed_built (TooManySteps number) why fault want = absurd why
  none_failed_built (Stepped nodes steps) why fault want = absurd why
  none_failed_built (SignedOff numbers) why fault want = absurd why
  none_failed_built (Solved nodes resistors sweeps) why fault want = absurd why
  none_failed_built (Certified nodes) why fault want = absurd why
  none_failed_built (NotCertified node side found) why fault want = absurd why

  -- What is so where the grid is built.
  pub record IsBuilt (status : ℕ) : Type 0 where
    pub outputs : Outputs
    pub builds : BuildsFiles solver.told before.known f outputs
    pub status_is : status ≡ built_status outputs.numbers
    pub asked : Rose solver.proposals solver'.proposals
    pub written : AreWritten before after (output_texts f outputs)

  pub built_so : (answer : Answer) → Cause answer → ((status_of answer ≡ 0) ⊎ (status_of answer ≡ 1)) → IsBuilt (status_of answer)
  built_so Usage why e = absurd why
  built_so Want why e = absurd (elim e [ inl z ↦ omega arith | inr o ↦ omega arith ])
  built_so (ReadFault file) why e = absurd (elim e [ inl z ↦ omega arith | inr o ↦ omega arith ])
  built_so (WriteFault file) why e = absurd (elim e [ inl z ↦ omega arith | inr o ↦ omega arith ])
  built_so (TooLong file) why e = absurd (elim e [ inl z ↦ omega arith | inr o ↦ omega arith ])
  built_so (Refused file place kind) why e = absurd (elim e [ inl z ↦ omega arith | inr o ↦ omega arith ])
  built_so (NoGrid words) why e = absurd (elim e [ inl z ↦ omega arith | inr o ↦ omega arith ])
  built_so (Range quantity at number) why e = absurd (elim e [ inl z ↦ omega arith | inr o ↦ omega arith ])
  built_so (PadConflict node first second) why e = absurd why
  built_so (Unsupplied node) why e = absurd (elim e [ inl z ↦ omega arith | inr o ↦ omega arith ])
  built_so (Built numbers) (outputs, builds, same, calm, asked, written) e = record { outputs = outputs; builds = builds; status_is = ap built_status same; asked = asked; written = written }
  built_so Generated why e = absurd why
  built_so (FloatingCapacitor node) why e = absurd why
  built_so (TooManySteps number) why e = absurd why
  built_so (Stepped nodes steps) why e = absurd why
  built_so (SignedOff numbers) why e = absurd why
  built_so (Solved nodes resistors sweeps) why e = absurd why
  built_so (Certified nodes) why e = absurd why
  built_so (NotCertified node side found) why e = absurd why

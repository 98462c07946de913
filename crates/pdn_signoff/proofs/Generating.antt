-- The answers of `generate`, each with its cause.
use Rattle.std.proofs.Common.{◌≡◌, ◌≢◌, ◌⊎◌, inl, inr, ℕ, List, [], ◌∷◌, refl, sym, ap, subst, ◌∙◌, arith}
use Rattle.outside.specs.Counts.{Rose}
use Rattle.outside.specs.Known.{WhereKnown}
use Rattle.answers.specs.declared.answer.Answer.{Answer}
use Rattle.answers.specs.declared.answer.Answer.TheVariants.{Usage, Want, ReadFault, WriteFault, TooLong, Refused, NoGrid, Range, TooManySteps, PadConflict, FloatingCapacitor, Unsupplied, Built, SignedOff, Generated, Solved, Stepped, Certified, NotCertified}
use Rattle.answers.specs.Answer.{status_of}
use Rattle.grid_gen.specs.declared.inputs.Inputs.{Inputs}
use Rattle.grid_gen.specs.Fixed.{technology_text, cells_text, script_text}
use Rattle.grid_gen.specs.Design.{design_text}
use Rattle.grid_gen.specs.Inputs.{AreInputs}
use Rattle.output_files.specs.Outputs.{Texts, names, text_at}
use Rattle.pdn_signoff.specs.declared.design_files.DesignFiles.{DesignFiles}
use Rattle.pdn_signoff.specs.Check.{FilesThen, NoneFailed}
use Rattle.pdn_signoff.specs.Solve.{IsKept, WriteFailed}
use Rattle.pdn_signoff.specs.Outputs.{AreWritten, Stops}
use Rattle.pdn_signoff.specs.Generate.{file_names, design_texts, Generates}
use Rattle.pdn_signoff.specs.Command.{ChangesAmong}
use Rattle.pdn_signoff.specs.inside.Generate.{made_texts}
use Rattle.pdn_signoff.proofs.Stopping.{stopped_alone, written_alone, kept_alone}

-- The texts that are made are those of the design.
pub texts_are : (number side : ℕ) (files : DesignFiles) (inputs : Inputs) → AreInputs number side inputs → made_texts files inputs ≡ design_texts number side files
unfolding design_texts
texts_are number side files inputs are =
    ap (λ (t : List ℕ). (files.lef, t) ∷ (files.cells, inputs.cells) ∷ (files.def, inputs.def) ∷ (files.pdn, inputs.pdn) ∷ (files.bias, inputs.bias) ∷ []) are.lef
    ∙ ap (λ (t : List ℕ). (files.lef, technology_text) ∷ (files.cells, t) ∷ (files.def, inputs.def) ∷ (files.pdn, inputs.pdn) ∷ (files.bias, inputs.bias) ∷ []) are.cells
    ∙ ap (λ (t : List ℕ). (files.lef, technology_text) ∷ (files.cells, cells_text) ∷ (files.def, t) ∷ (files.pdn, inputs.pdn) ∷ (files.bias, inputs.bias) ∷ []) are.def
    ∙ ap (λ (t : List ℕ). (files.lef, technology_text) ∷ (files.cells, cells_text) ∷ (files.def, design_text number side) ∷ (files.pdn, t) ∷ (files.bias, inputs.bias) ∷ []) are.pdn
    ∙ ap (λ (t : List ℕ). (files.lef, technology_text) ∷ (files.cells, cells_text) ∷ (files.def, design_text number side) ∷ (files.pdn, script_text) ∷ (files.bias, t) ∷ []) are.bias

-- Their names are those of the files.
names_are : (number side : ℕ) (files : DesignFiles) → names (design_texts number side files) ≡ file_names files
unfolding design_texts
names_are number side files = refl

module _ (before after : FilesThen) (number side : ℕ) (files : DesignFiles) where
  abbrev pub all : Texts
  all = design_texts number side files

  -- A file was not written.
  pub not_written : (answer : Answer) → Stops before after all answer → Generates before after number side files answer
  not_written answer (place, at, inl want) = subst (Generates before after number side files) (sym want) (inr (inl (place, at)))
  not_written answer (place, at, inr (told, failed)) = subst (Generates before after number side files) (sym told) (place, at, inr (refl, failed))

  -- The kinds of answers: memory ran out, a file could not be written, or all were written.
  abbrev pub IsUnwritten : Answer → Type 0
  IsUnwritten a = (file : List ℕ) × (a ≡ WriteFault file) × Stops before after all (WriteFault file)

  abbrev pub IsMade : Answer → Type 0
  IsMade a = (a ≡ Generated) × NoneFailed before after × AreWritten before after all

  abbrev pub IsMadeStage : Answer → Type 0
  IsMadeStage a = (a ≡ Want) ⊎ (IsUnwritten a ⊎ IsMade a)

  pub made_stage : (answer : Answer) → Generates before after number side files answer → IsMadeStage answer
  made_stage Usage why = absurd why
  made_stage Want why = inl refl
  made_stage (ReadFault file) why = absurd why
  made_stage (WriteFault file) why = inr (inl (file, refl, why))
  made_stage (TooLong file) why = absurd why
  made_stage (Refused file place kind) why = absurd why
  made_stage (NoGrid refusal) why = absurd why
  made_stage (Range quantity at value) why = absurd why
  made_stage (PadConflict node first second) why = absurd why
  made_stage (Unsupplied node) why = absurd why
  made_stage (Built built) why = absurd why
  made_stage Generated why = inr (inr (refl, why.0, why.1))
  made_stage (FloatingCapacitor node) why = absurd why
  made_stage (TooManySteps value) why = absurd why
  made_stage (Stepped nodes steps) why = absurd why
  made_stage (SignedOff numbers) why = absurd why
  made_stage (Solved nodes resistors sweeps) why = absurd why
  made_stage (Certified nodes) why = absurd why
  made_stage (NotCertified node bound found) why = absurd why

  -- A write of the file failed that the answer names.
  pub failed_write : (file : List ℕ) → Stops before after all (WriteFault file) → WriteFailed before after file
  failed_write file (place, at, inl want) = let clash : WriteFault file ≡ Want = want in cc
  failed_write file (place, at, inr (told, failed)) =
      let same : file ≡ (text_at all place).0 = cc in subst (WriteFailed before after) (sym same) failed

  -- ---- the status
  no_usage_here : (answer : Answer) → IsMadeStage answer → status_of answer ≢ 2
  no_usage_here answer (inl want) e = let ten : status_of answer ≡ 10 = ap status_of want in omega arith
  no_usage_here answer (inr (inl (file, told, stops))) e = let three : status_of answer ≡ 3 = ap status_of told in omega arith
  no_usage_here answer (inr (inr (told, calm, holds))) e = let zero : status_of answer ≡ 0 = ap status_of told in omega arith

  -- No answer has the status of usage.
  pub no_usage_made : (answer : Answer) → Generates before after number side files answer → status_of answer ≢ 2
  no_usage_made answer why = no_usage_here answer (made_stage answer why)

  none_failed_here : (answer : Answer) → IsMadeStage answer → status_of answer ≢ 3 → status_of answer ≢ 10 → NoneFailed before after
  none_failed_here answer (inl told) fault want = absurd (want (ap status_of told))
  none_failed_here answer (inr (inl (file, told, stops))) fault want = absurd (fault (ap status_of told))
  none_failed_here answer (inr (inr (told, calm, holds))) fault want = calm

  pub none_failed_made : (answer : Answer) → Generates before after number side files answer → status_of answer ≢ 3 → status_of answer ≢ 10 → NoneFailed before after
  none_failed_made answer why = none_failed_here answer (made_stage answer why)

  zero_here : (answer : Answer) → IsMadeStage answer → status_of answer ≡ 0 → AreWritten before after all
  zero_here answer (inl want) e = let ten : status_of answer ≡ 10 = ap status_of want in absurd (omega arith)
  zero_here answer (inr (inl (file, told, stops))) e = let three : status_of answer ≡ 3 = ap status_of told in absurd (omega arith)
  zero_here answer (inr (inr (told, calm, holds))) e = holds

  -- After the status 0 all are written.
  pub zero_made : (answer : Answer) → Generates before after number side files answer → status_of answer ≡ 0 → AreWritten before after all
  zero_made answer why = zero_here answer (made_stage answer why)

  made_here : ¬ Rose before.counts.faults after.counts.faults → (answer : Answer) → IsMadeStage answer → (status_of answer ≡ 0) ⊎ (status_of answer ≡ 10)
  made_here calm answer (inl want) = inr (ap status_of want)
  made_here calm answer (inr (inl (file, told, stops))) = absurd (calm (failed_write file stops).fault)
  made_here calm answer (inr (inr (told, none, holds))) = inl (ap status_of told)

  -- Where no call on the files fails, all are written, or memory ran out.
  pub made_so : ¬ Rose before.counts.faults after.counts.faults → (answer : Answer) → Generates before after number side files answer → (status_of answer ≡ 0) ⊎ (status_of answer ≡ 10)
  made_so calm answer why = made_here calm answer (made_stage answer why)

  -- ---- want of memory
  want_here : (answer : Answer) → IsMadeStage answer → Generates before after number side files answer → Generates before after number side files Want
  want_here answer (inl want) why = subst (Generates before after number side files) want why
  want_here answer (inr (inl (file, told, (place, at, either)))) why = inr (inl (place, at))
  want_here answer (inr (inr (told, calm, holds))) why = inr (inr holds)

  -- Memory may have run out at any answer: so far were the files written.
  pub want_made : (answer : Answer) → Generates before after number side files answer → Generates before after number side files Want
  want_made answer why = want_here answer (made_stage answer why) why

  -- No file changes but the five.
  files_here : Generates before after number side files Want → WhereKnown (ChangesAmong (names all)) before.known after.known
  files_here (inl kept) = kept_alone (names all) before.known after.known kept
  files_here (inr (inl (place, at))) = stopped_alone all place at.0 before.known after.known at.1
  files_here (inr (inr holds)) = written_alone all before.known after.known holds

  pub files_alone : (answer : Answer) → Generates before after number side files answer → WhereKnown (ChangesAmong (file_names files)) before.known after.known
  files_alone answer why = subst (λ (ns : List (List ℕ)). WhereKnown (ChangesAmong ns) before.known after.known) (names_are number side files) (files_here (want_made answer why))

  -- Where the words changed nothing, no file changed.
  pub kept_among : IsKept before after → WhereKnown (ChangesAmong (file_names files)) before.known after.known
  kept_among kept = kept_alone (file_names files) before.known after.known kept

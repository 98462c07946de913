-- A command that reads files, makes outputs of their texts and writes these: what follows from the cause of its answer.
use Rattle.std.proofs.Common.{◌≡◌, ◌≢◌, ◌≤◌, ◌<◌, ◌⊎◌, inl, inr, ℕ, List, Some, length, refl, sym, ap, subst, ◌∙◌, arith}
use Rattle.outside.specs.Counts.{Rose}
use Rattle.outside.specs.Files.{Holdings, bytes_in}
use Rattle.outside.specs.Known.{WhereKnown}
use Rattle.outside.specs.Whole.{longest_text}
use Rattle.outside.specs.declared.whole.ReadError.{ReadError}
use Rattle.outside.specs.declared.whole.ReadError.TheVariants as reading
use Rattle.answers.specs.declared.answer.Answer.{Answer}
use Rattle.answers.specs.declared.answer.Answer.TheVariants.{Want}
use Rattle.answers.specs.Answer.{status_of}
use Rattle.input_files.specs.Inputs.{name_at}
use Rattle.output_files.specs.Outputs.{Texts, names}
use Rattle.pdn_signoff.specs.Check.{FilesThen, NoneFailed, IsTooLong}
use Rattle.pdn_signoff.specs.Solve.{SolverThen, IsKept}
use Rattle.pdn_signoff.specs.Inputs.{IsFirstUnread, FailsToRead}
use Rattle.pdn_signoff.specs.Outputs.{AreWritten, Stops}
use Rattle.pdn_signoff.specs.Runs.{WritingEnds, MakesOutputs, RunsOver}
use Rattle.pdn_signoff.specs.Command.{ChangesAmong}
use Rattle.pdn_signoff.specs.inside.Check.{unread_answer}
use Rattle.pdn_signoff.proofs.Stopping.{stopped_alone, written_alone, kept_alone}

-- The answer to outputs of which one was not written.
stop_status : (before after : FilesThen) (outputs : Texts) (answer : Answer) → Stops before after outputs answer → (status_of answer ≡ 3) ⊎ (status_of answer ≡ 10)
stop_status before after outputs answer (place, at, inl want) = inr (ap status_of want)
stop_status before after outputs answer (place, at, inr (told, failed)) = inl (ap status_of told)

module _ (files : List (List ℕ)) (Refuses : Answer → Type 0) (Makes : Texts → Answer → Type 0) (solver solver' : SolverThen) (before after : FilesThen) where
  abbrev pub Cause : Answer → Type 0
  Cause answer = RunsOver files Refuses Makes solver solver' before after answer

  -- ---- how an answer comes
  -- A file was not read.
  of_error : IsKept before after → (e : ReadError) (file : List ℕ) (place : ℕ) → IsFirstUnread before.known files file place → (e ≡ reading.ReadFault → FailsToRead before after file) → (e ≡ reading.TooLong → IsTooLong before.known file) → (e ≡ reading.TooLong → NoneFailed before after)
      → Cause (unread_answer e file)
  of_error kept reading.ReadFault file place first fault long calm = inl (kept, inl (file, place, refl, first, fault refl))
  of_error kept reading.TooLong file place first fault long calm = inl (kept, inr (inl (file, place, refl, calm refl, first, long refl)))
  of_error kept reading.Want file place first fault long calm = inl (kept, inr (inr (inr refl)))

  pub file_unread : IsKept before after → (e : ReadError) (file : List ℕ) (place : ℕ) → IsFirstUnread before.known files file place → (e ≡ reading.ReadFault → FailsToRead before after file) → (e ≡ reading.TooLong → IsTooLong before.known file) → (e ≡ reading.TooLong → NoneFailed before after)
      → (answer : Answer) → ((answer ≡ Want) ⊎ (answer ≡ unread_answer e file)) → Cause answer
  file_unread kept e file place first fault long calm answer (inl want) = inl (kept, inr (inr (inr want)))
  file_unread kept e file place first fault long calm answer (inr told) = subst Cause (sym told) (of_error kept e file place first fault long calm)

  -- ---- want of memory
  want_end : (outputs : Texts) (done answer : Answer) → WritingEnds before after outputs done answer → WritingEnds before after outputs done Want
  want_end outputs done answer (inl (told, calm, written)) = inr (inl (refl, written))
  want_end outputs done answer (inr (inl (told, written))) = inr (inl (refl, written))
  want_end outputs done answer (inr (inr (place, at, either))) = inr (inr (place, at, inl refl))

  pub want_too : (answer : Answer) → Cause answer → Cause Want
  want_too answer (inl (kept, why)) = inl (kept, inr (inr (inr refl)))
  want_too answer (inr m) = inr (record { outputs = m.outputs; done = m.done; made = m.made; asked = m.asked; ends = want_end m.outputs m.done answer m.ends })

  -- ---- no other file changes
  outputs_alone : (outputs : Texts) (done answer : Answer) → WritingEnds before after outputs done answer → WhereKnown (ChangesAmong (names outputs)) before.known after.known
  outputs_alone outputs done answer (inl (told, calm, written)) = written_alone outputs before.known after.known written
  outputs_alone outputs done answer (inr (inl (told, written))) = written_alone outputs before.known after.known written
  outputs_alone outputs done answer (inr (inr (place, (below, stop), either))) = stopped_alone outputs place below before.known after.known stop

  pub files_alone : (written : List (List ℕ)) → ((outputs : Texts) (done : Answer) → Makes outputs done → names outputs ≡ written) → (answer : Answer) → Cause answer → WhereKnown (ChangesAmong written) before.known after.known
  files_alone written named answer (inl (kept, why)) = kept_alone written before.known after.known kept
  files_alone written named answer (inr m) =
      subst (λ (ns : List (List ℕ)). WhereKnown (ChangesAmong ns) before.known after.known) (named m.outputs m.done m.made) (outputs_alone m.outputs m.done answer m.ends)

  -- ---- the status
  -- The answer of outputs that were made is that of the command, or has the status of a fault or of want of memory.
  of_ends : (outputs : Texts) (done answer : Answer) → WritingEnds before after outputs done answer → (status_of answer ≡ status_of done) ⊎ ((status_of answer ≡ 3) ⊎ (status_of answer ≡ 10))
  of_ends outputs done answer (inl (told, calm, written)) = inl (ap status_of told)
  of_ends outputs done answer (inr (inl (told, written))) = inr (inr (ap status_of told))
  of_ends outputs done answer (inr (inr stops)) = inr (stop_status before after outputs answer stops)

  -- No answer has a low status that neither a refusal nor the answer of outputs has.
  pub not_status : (n : ℕ) → n < 3 → ((a : Answer) → Refuses a → status_of a ≢ n) → ((outputs : Texts) (a : Answer) → Makes outputs a → status_of a ≢ n) → (answer : Answer) → Cause answer → status_of answer ≢ n
  not_status n low refused made answer (inl (kept, inl (file, place, told, first, fails))) e = let three : status_of answer ≡ 3 = ap status_of told in omega (arith, three, e, low)
  not_status n low refused made answer (inl (kept, inr (inl (file, place, told, calm, first, long)))) e = let four : status_of answer ≡ 4 = ap status_of told in omega (arith, four, e, low)
  not_status n low refused made answer (inl (kept, inr (inr (inl (calm, why))))) e = refused answer why e
  not_status n low refused made answer (inl (kept, inr (inr (inr want)))) e = let ten : status_of answer ≡ 10 = ap status_of want in omega (arith, ten, e, low)
  not_status n low refused made answer (inr m) e =
      elim (of_ends m.outputs m.done answer m.ends) [
        | inl same ↦ made m.outputs m.done m.made (sym same ∙ e)
        | inr (inl three) ↦ omega (arith, three, e, low)
        | inr (inr ten) ↦ omega (arith, ten, e, low)
      ]

  pub none_failed : (answer : Answer) → Cause answer → status_of answer ≢ 3 → status_of answer ≢ 10 → NoneFailed before after
  none_failed answer (inl (kept, inl (file, place, told, first, fails))) fault want = absurd (fault (ap status_of told))
  none_failed answer (inl (kept, inr (inl (file, place, told, calm, first, long)))) fault want = calm
  none_failed answer (inl (kept, inr (inr (inl (calm, why))))) fault want = calm
  none_failed answer (inl (kept, inr (inr (inr short)))) fault want = absurd (want (ap status_of short))
  none_failed answer (inr m) fault want =
      elim m.ends [
        | inl done ↦ done.1
        | inr (inl short) ↦ absurd (want (ap status_of short.0))
        | inr (inr stops) ↦ elim (stop_status before after m.outputs answer stops) [ inl three ↦ absurd (fault three) | inr ten ↦ absurd (want ten) ]
      ]

  -- ---- the outputs are written
  pub record IsWritten (answer : Answer) : Type 0 where
    pub outputs : Texts
    pub made : Makes outputs answer
    pub asked : Rose solver.proposals solver'.proposals
    pub calm : NoneFailed before after
    pub written : AreWritten before after outputs

  written_so : (answer : Answer) (m : MakesOutputs Makes solver solver' before after answer) → answer ≡ m.done → NoneFailed before after → AreWritten before after m.outputs → IsWritten answer
  written_so answer m told calm written = record { outputs = m.outputs; made = subst (λ a. Makes m.outputs a) (sym told) m.made; asked = m.asked; calm = calm; written = written }

  -- A status below 3 says that they are, where no refusal has it.
  pub low_written : (n : ℕ) → n < 3 → ((a : Answer) → Refuses a → status_of a ≢ n) → (answer : Answer) → Cause answer → status_of answer ≡ n → IsWritten answer
  low_written n low refused answer (inl (kept, inl (file, place, told, first, fails))) e = let three : status_of answer ≡ 3 = ap status_of told in absurd (omega (arith, three, e, low))
  low_written n low refused answer (inl (kept, inr (inl (file, place, told, calm, first, long)))) e = let four : status_of answer ≡ 4 = ap status_of told in absurd (omega (arith, four, e, low))
  low_written n low refused answer (inl (kept, inr (inr (inl (calm, why))))) e = absurd (refused answer why e)
  low_written n low refused answer (inl (kept, inr (inr (inr want)))) e = let ten : status_of answer ≡ 10 = ap status_of want in absurd (omega (arith, ten, e, low))
  low_written n low refused answer (inr m) e =
      elim m.ends [
        | inl done ↦ written_so answer m done.0 done.1 done.2
        | inr (inl short) ↦ let ten : status_of answer ≡ 10 = ap status_of short.0 in absurd (omega (arith, ten, e, low))
        | inr (inr stops) ↦ absurd (elim (stop_status before after m.outputs answer stops) [ inl three ↦ omega (arith, three, e, low) | inr ten ↦ omega (arith, ten, e, low) ])
      ]

  -- Where no file is too long, nothing is refused and no call fails, they are, or memory ran out.
  pub whole : (held : Holdings) → before.known ≡ Some held → ((place : ℕ) → place < length files → length (bytes_in held (name_at files place)) ≤ longest_text) → ((a : Answer) → Refuses a → a ≡ Want) → ¬ Rose before.counts.faults after.counts.faults
      → (answer : Answer) → Cause answer → IsWritten answer ⊎ (answer ≡ Want)
  whole held known fits accepted calm answer (inl (kept, inl (file, place, told, first, fails))) = absurd (calm fails.failed.fault)
  whole held known fits accepted calm answer (inl (kept, inr (inl (file, place, told, none, first, long)))) =
      let more : longest_text < length (bytes_in held file) = subst (λ k. IsTooLong k file) known long in
      absurd (omega (arith, more, subst (λ (x : List ℕ). length (bytes_in held x) ≤ longest_text) (sym first.is) (fits place first.below)))
  whole held known fits accepted calm answer (inl (kept, inr (inr (inl (none, why))))) = inr (accepted answer why)
  whole held known fits accepted calm answer (inl (kept, inr (inr (inr want)))) = inr want
  whole held known fits accepted calm answer (inr m) =
      elim m.ends [
        | inl done ↦ inl (written_so answer m done.0 done.1 done.2)
        | inr (inl short) ↦ inr short.0
        | inr (inr (place, at, inl want)) ↦ inr want
        | inr (inr (place, at, inr (told, failed))) ↦ absurd (calm failed.fault)
      ]
